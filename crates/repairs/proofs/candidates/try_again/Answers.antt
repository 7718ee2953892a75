use Rattle.std.proofs.Common.{sym, ◌∙◌, subst}
use Rattle.std.proofs.lemmas.Bool.{false≢true}
use Rattle.tmm_model.specs.declared.premise.Edit.TheVariants.{Add}
use Rattle.tmm_model.specs.Standing.{name_of}
use Rattle.repairs.specs.Repairs.{IsRepair}
use Rattle.repairs.specs.Trials.{IsMendingAfter}
use Rattle.repairs.proofs.Growing.{Grows-holds, Grows-fails}
use Rattle.repairs.proofs.Mending.{repair_by_two, two_by_repair}
use Rattle.repairs.proofs.candidates.try_again.Goals as goal

pub returns-in_ok-append-clause-fixes : goal.returns-in_ok-append-clause-fixes
returns-in_ok-append-clause-fixes g c =
    let mending : IsMendingAfter c.args.standing.now.present (name_of c.args.premise) c.args.aim.now.name (Add c.args.premise) =
    subst (λ n. IsMendingAfter c.args.standing.now.present n c.args.aim.now.name (Add c.args.premise)) c.name-name.ensures (c.in_ok-is_mending.ensures.value.0 c.if-branch.true) in
    let holds = repair_by_two c.args.standing.now.present c.args.aim.now c.requires.aim c.args.fix.now (name_of c.args.premise) c.args.premise c.requires.other c.requires.edits
    c.requires.erased.accepted mending in
    Grows-holds (IsRepair c.args.standing.now.present c.args.aim.now.name) c.args.fix.now c.args.fixes.now.items c.append.new.self.items holds c.in_ok-append.ensures.ok

pub returns-else-branch-clause-fixes : goal.returns-else-branch-clause-fixes
returns-else-branch-clause-fixes g c =
    Grows-fails (IsRepair c.args.standing.now.present c.args.aim.now.name) c.args.fix.now c.args.fixes.now.items (λ repair.
    let mending : IsMendingAfter c.args.standing.now.present (name_of c.args.premise) c.args.aim.now.name (Add c.args.premise) =
    (two_by_repair c.args.standing.now.present c.args.aim.now c.requires.aim c.args.fix.now (name_of c.args.premise) c.args.premise c.requires.other c.requires.edits repair).1 in
    false≢true
    (sym c.if-branch.false
    ∙ c.in_ok-is_mending.ensures.value.1 (subst (λ n. IsMendingAfter c.args.standing.now.present n c.args.aim.now.name (Add c.args.premise)) (sym c.name-name.ensures) mending)))
