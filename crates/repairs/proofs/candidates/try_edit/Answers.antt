use Rattle.std.proofs.Common.{sym, ◌∙◌}
use Rattle.std.proofs.lemmas.Bool.{false≢true}
use Rattle.repairs.specs.Repairs.{IsRepair}
use Rattle.repairs.proofs.Growing.{Grows-holds, Grows-fails}
use Rattle.repairs.proofs.Mending.{repair_by_one, one_by_repair}
use Rattle.repairs.proofs.candidates.try_edit.Goals as goal

pub returns-in_ok-append-clause-fixes : goal.returns-in_ok-append-clause-fixes
returns-in_ok-append-clause-fixes g c =
    let holds = repair_by_one (g.M.MapCore.list c.args.core.now) c.args.aim.now c.requires.aim c.args.fix.now c.args.edit.now c.requires.edits (c.in_ok-is_mending.ensures.value.0 c.if-branch.true) in
    Grows-holds (IsRepair (g.M.MapCore.list c.args.core.now) c.args.aim.now.name) c.args.fix.now c.args.fixes.now.items c.append.new.self.items holds c.in_ok-append.ensures.ok

pub returns-else-branch-clause-fixes : goal.returns-else-branch-clause-fixes
returns-else-branch-clause-fixes g c =
    Grows-fails (IsRepair (g.M.MapCore.list c.args.core.now) c.args.aim.now.name) c.args.fix.now c.args.fixes.now.items
    (λ repair. false≢true (sym c.if-branch.false ∙ c.in_ok-is_mending.ensures.value.1 (one_by_repair (g.M.MapCore.list c.args.core.now) c.args.aim.now c.requires.aim c.args.fix.now c.args.edit.now c.requires.edits repair)))
