-- Premises that stood before an edit.
use Rattle.std.proofs.Common.{◌≡◌, true, false, [], ◌∷◌, ◌++◌, refl, ap, inl, inr}
use Rattle.std.specs.List.{Contains}
use Rattle.tmm_model.specs.declared.premise.Edit.{Edit}
use Rattle.tmm_model.specs.declared.premise.Edit.TheVariants.{Add, Erase, Horizon, Upgrade}
use Rattle.tmm_model.specs.declared.premise.Premise.{Premise}
use Rattle.tmm_model.specs.Edits.{next_list}
use Rattle.tmm_model.specs.Points.{same_name}
use Rattle.tmm_model.specs.Standing.{Standing, name_of}
use Rattle.std.specs.Cmp.Lexicographic.{bytes_decides}
use Rattle.list_theory.proofs.Elements.{In-cases, In-from_Contains, Contains-from_In}
use Rattle.list_theory.proofs.Erasure.{kept_before}

-- **A premise of another name than the one that is added stood before.**
pub stood_of_others : (s : Standing) (added p : Premise) → same_name (name_of added) (name_of p) ≡ false → Contains (next_list s (Add added)).premises p → Contains s.premises p
stood_of_others s added p other at =
    elim (In-cases s.premises (added ∷ []) p (In-from_Contains (s.premises ++ added ∷ []) p at)) [
      | inl there ↦ Contains-from_In s.premises p there
      | inr here ↦ elim here [
        | inl is ↦ (let same : same_name (name_of added) (name_of p) ≡ true = (bytes_decides (name_of added) (name_of p)).1 (ap name_of is) in cc)
        | inr none ↦ absurd none
      ]
    ]

-- **Where nothing is added all premises stood before.**
pub stood_all : (edit : Edit) → ((added : Premise) → edit ≡ Add added → ⊥) → (s : Standing) (p : Premise) → Contains (next_list s edit).premises p → Contains s.premises p
stood_all (Add added) none s p at = absurd (none added refl)
stood_all (Erase name) none s p at = Contains-from_In s.premises p (kept_before name [] s.premises p (In-from_Contains (next_list s (Erase name)).premises p at))
stood_all (Horizon n) none s p at = at
stood_all Upgrade none s p at = at
