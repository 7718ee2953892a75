use Rattle.std.proofs.Common.{◌≡◌, sym, subst, [], ◌∷◌}
use Rattle.tmm_model.specs.declared.fix.Fix.TheVariants.{LoosenLo, LoosenHi}
use Rattle.tmm_model.specs.declared.premise.Edit.TheVariants.{Add, Erase}
use Rattle.tmm_model.specs.declared.premise.Premise.{Premise}
use Rattle.tmm_model.specs.Standing.{name_of}
use Rattle.repairs.specs.Repairs.{IsRepair, edits_of}
use Rattle.repairs.proofs.Growing.{Grows-append, on_success}
use Rattle.repairs.proofs.Loosening.{edits_without_lo, edits_without_hi}
use Rattle.repairs.proofs.candidates.try_either_side.Goals as goal

pub try_again-requires-clause-edits : goal.try_again-requires-clause-edits
try_again-requires-clause-edits g c =
    subst (λ (p : Premise). edits_of c.args.standing.now.present c.args.aim.now.free (LoosenLo c.args.constraint.now.name) ≡ Erase (name_of p) ∷ Add p ∷ []) (sym c.without_lo.ensures)
    (edits_without_lo c.args.standing.now.present c.requires.aim.well_named c.args.aim.now.free c.args.constraint.now.name c.args.constraint.now.from c.args.constraint.now.to c.args.constraint.now.lo c.args.constraint.now.hi c.requires.stands)

pub try_again-requires-2-clause-edits : goal.try_again-requires-2-clause-edits
try_again-requires-2-clause-edits g c =
    subst (λ (p : Premise). edits_of c.args.standing.now.present c.args.aim.now.free (LoosenHi c.args.constraint.now.name) ≡ Erase (name_of p) ∷ Add p ∷ []) (sym c.without_hi.ensures)
    (edits_without_hi c.args.standing.now.present c.requires.aim.well_named c.args.aim.now.free c.args.constraint.now.name c.args.constraint.now.from c.args.constraint.now.to c.args.constraint.now.lo c.args.constraint.now.hi c.requires.stands)

pub returns : goal.returns
returns g c =
    on_success c.try_again-2.result
    (λ more. Grows-append (IsRepair c.args.standing.now.present c.args.aim.now.name) (LoosenLo c.args.constraint.now.name ∷ []) (LoosenHi c.args.constraint.now.name ∷ []) c.args.fixes.now.items
    c.try_again.new.fixes.items c.try_again-2.new.fixes.items c.in_ok-try_again.ensures.fixes more)
    c.try_again-2.ensures.fixes
