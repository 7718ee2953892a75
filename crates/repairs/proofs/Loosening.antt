-- A constraint of which a bound is given up.
use Rattle.std.proofs.Common.{◌≡◌, ℕ, ℤ, List, [], ◌∷◌, ap}
use Rattle.std.specs.List.{All, Contains}
use Rattle.std.proofs.lemmas.List.Elements.{All-contains}
use Rattle.tmm_model.specs.declared.bound.Bound.TheVariants.{Finite, Free}
use Rattle.tmm_model.specs.declared.fix.Fix.TheVariants.{LoosenLo, LoosenHi}
use Rattle.tmm_model.specs.declared.point.PointName.{PointName}
use Rattle.tmm_model.specs.declared.premise.Edit.TheVariants.{Add, Erase}
use Rattle.tmm_model.specs.declared.premise.Premise.TheVariants.{Dist}
use Rattle.tmm_model.specs.Lines.{IsWellFormedPremise}
use Rattle.tmm_model.specs.Standing.{Standing}
use Rattle.list_theory.specs.WellNamed.{IsWellNamed}
use Rattle.list_theory.proofs.Elements.{In-from_Contains}
use Rattle.list_theory.proofs.KnownNames.{found}
use Rattle.repairs.specs.Repairs.{edits_of, added_again, without_lo, without_hi}

module _ (s : Standing) (named : IsWellNamed s.premises) (free n : List ℕ) (from to : PointName) (lo hi : ℤ) (stands : Contains s.premises (Dist n from to (Finite lo) (Finite hi))) where
  pub edits_without_lo : edits_of s free (LoosenLo n) ≡ Erase n ∷ Add (Dist n from to Free (Finite hi)) ∷ []
  edits_without_lo = ap (λ o. Erase n ∷ added_again without_lo o) (found s.premises named (Dist n from to (Finite lo) (Finite hi)) (In-from_Contains s.premises (Dist n from to (Finite lo) (Finite hi)) stands))

  pub edits_without_hi : edits_of s free (LoosenHi n) ≡ Erase n ∷ Add (Dist n from to (Finite lo) Free) ∷ []
  edits_without_hi = ap (λ o. Erase n ∷ added_again without_hi o) (found s.premises named (Dist n from to (Finite lo) (Finite hi)) (In-from_Contains s.premises (Dist n from to (Finite lo) (Finite hi)) stands))

  module _ (formed : All IsWellFormedPremise s.premises) where
    formed_whole : IsWellFormedPremise (Dist n from to (Finite lo) (Finite hi))
    formed_whole = All-contains IsWellFormedPremise s.premises (Dist n from to (Finite lo) (Finite hi)) formed stands

    pub formed_without_lo : IsWellFormedPremise (Dist n from to Free (Finite hi))
    formed_without_lo = let f = formed_whole in (f.0, f.1, f.2, tt, f.4, tt)

    pub formed_without_hi : IsWellFormedPremise (Dist n from to (Finite lo) Free)
    formed_without_hi = let f = formed_whole in (f.0, f.1, f.2, f.3, tt, tt)
