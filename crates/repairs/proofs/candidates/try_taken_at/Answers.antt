use Rattle.std.proofs.Common.{◌≡◌, ◌∙◌, sym, subst, [], ◌∷◌}
use Rattle.std.specs.Prelude.{Some, IfSome, slice_get}
use Rattle.std.specs.List.{Contains}
use Rattle.tmm_model.specs.declared.bound.Bound.TheVariants.{Finite}
use Rattle.tmm_model.specs.declared.fix.Fix.TheVariants.{LoosenLo, LoosenHi}
use Rattle.tmm_model.specs.declared.premise.Premise.{Premise}
use Rattle.tmm_model.specs.declared.premise.Premise.TheVariants.{Dist}
use Rattle.tmm_model.specs.Standing.{name_of}
use Rattle.repairs.specs.Aims.{GrowsBy}
use Rattle.repairs.specs.Repairs.{IsRepair}
use Rattle.list_theory.proofs.Elements.{In-slice_get, Contains-from_In}
use Rattle.repairs.proofs.Growing.{on_success}
use Rattle.repairs.proofs.Taking.{name_at, grown}
use Rattle.repairs.proofs.candidates.try_taken_at.Goals as goal

pub try_edit-requires-clause-well_formed : goal.try_edit-requires-clause-well_formed
try_edit-requires-clause-well_formed g c =
    let s = g.M.MapCore.list c.args.core.now in
    name_at s.premises c.requires.aim.well_formed c.args.place c.requires.place c.parts_at-name.result.0
    (subst (λ l. (p : Premise) → slice_get l.premises c.args.place ≡ Some p → c.parts_at-name.result.0 ≡ name_of p) c.standing.ensures c.parts_at-name.ensures.name)

pub try_loosened-requires-clause-stands : goal.try_loosened-requires-clause-stands
try_loosened-requires-clause-stands g c =
    let k = c.in-Some.constraint in
    let dist = Dist k.name k.from k.to (Finite k.lo) (Finite k.hi) in
    let got : slice_get c.standing.result.now.present.premises c.args.place ≡ Some dist =
    subst (λ o. IfSome o (λ k. slice_get c.standing.result.now.present.premises c.args.place ≡ Some (Dist k.name k.from k.to (Finite k.lo) (Finite k.hi)))) c.in-Some.is c.parts_at-name.ensures.constraint in
    subst (λ l. Contains l.premises dist) (c.standing.ensures ∙ sym c.in_ok-try_edit.ensures.list)
    (Contains-from_In c.standing.result.now.present.premises dist (In-slice_get c.standing.result.now.present.premises c.args.place dist got))

pub returns-in-Some-clause-fixes : goal.returns-in-Some-clause-fixes
returns-in-Some-clause-fixes g c =
    let s = g.M.MapCore.list c.args.core.now in
    let k = c.in-Some.constraint in
    let got : slice_get s.premises c.args.place ≡ Some (Dist k.name k.from k.to (Finite k.lo) (Finite k.hi)) =
    subst (λ l. slice_get l.premises c.args.place ≡ Some (Dist k.name k.from k.to (Finite k.lo) (Finite k.hi))) c.standing.ensures
    (subst (λ o. IfSome o (λ k. slice_get c.standing.result.now.present.premises c.args.place ≡ Some (Dist k.name k.from k.to (Finite k.lo) (Finite k.hi)))) c.in-Some.is c.parts_at-name.ensures.constraint) in
    let named : c.parts_at-name.result.0 ≡ k.name =
    subst (λ l. (p : Premise) → slice_get l.premises c.args.place ≡ Some p → c.parts_at-name.result.0 ≡ name_of p) c.standing.ensures c.parts_at-name.ensures.name (Dist k.name k.from k.to (Finite k.lo) (Finite k.hi)) got in
    on_success c.try_loosened.result
    (λ more premise here.
    grown (IsRepair s c.args.aim.now.name) c.parts_at-name.result.0 k.name k.from k.to k.lo k.hi premise c.args.fixes.now.items c.try_edit.new.fixes.items c.try_loosened.new.fixes.items named (sym got ∙ here)
    c.in_ok-try_edit.ensures.fixes
    (subst (λ l. GrowsBy l c.args.aim.now (LoosenLo k.name ∷ LoosenHi k.name ∷ []) c.try_edit.new.fixes.items c.try_loosened.new.fixes.items) c.in_ok-try_edit.ensures.list more))
    c.try_loosened.ensures
