use Rattle.std.proofs.Common.{sym, subst}
use Rattle.undo_rows.specs.Steps.{LeadsBack}
use Rattle.undo_rows.proofs.Undoing.{LeadsBack-linked}
use Rattle.undo_rows.proofs.steps.link.Goals as goal

pub returns-clause-back : goal.returns-clause-back
returns-clause-back g c =
    subst (LeadsBack g.row.F c.args.links.now c.link_last.new.self c.args.log.now.items) (sym c.push.ensures.items)
    (LeadsBack-linked c.args.links.now c.link_last.new.self c.args.log.now.items c.args.family c.args.head c.args.row c.requires.head c.link_last.ensures.list c.link_last.ensures.back)
