use Rattle.std.proofs.Common.{sym, subst}
use Rattle.undo_rows.specs.Steps.{LeadsBack}
use Rattle.undo_rows.proofs.Undoing.{LeadsBack-unlinked}
use Rattle.undo_rows.proofs.steps.unlink.Goals as goal

pub returns-clause-back : goal.returns-clause-back
returns-clause-back g c =
    let e = c.unlink-gap.ensures in
    subst (LeadsBack g.row.F c.args.links.now c.unlink-gap.new.self c.args.log.now.items) (sym c.push.ensures.items)
    (LeadsBack-unlinked c.args.links.now c.unlink-gap.new.self c.args.log.now.items c.args.family c.args.row c.unlink-gap.result e.on e.exist e.apart e.gap e.list e.back)
