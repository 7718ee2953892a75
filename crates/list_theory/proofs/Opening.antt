-- The list at which version 2 is opened.
use Rattle.std.proofs.Common.{◌≡◌, ℕ, Bool, true, false, List, [], ◌∷◌, refl, ap, arith}
use Rattle.std.specs.Prelude.{nat_eq, ◌&&◌, Option, Some, None}
use Rattle.tmm_model.specs.declared.limits.TheConstants.{FIRST_HORIZON}
use Rattle.tmm_model.specs.declared.premise.Edit.TheVariants.{Upgrade}
use Rattle.tmm_model.specs.declared.premise.Premise.{Premise}
use Rattle.tmm_model.specs.declared.version.Version.{Version}
use Rattle.tmm_model.specs.declared.version.Version.TheVariants.{One, Two}
use Rattle.tmm_model.specs.Standing.{Standing, empty_list, is_empty, says_nothing}
use Rattle.tmm_model.specs.Verdicts.{Cause, out_of_form, list_cause}

-- a list that is empty is the empty list
is_empty-is : (s : Standing) → is_empty s ≡ true → s ≡ empty_list
is_empty-is s e = by s.version s.horizon s.premises e
  where
    same : (n : ℕ) → nat_eq n FIRST_HORIZON ≡ true → n ≡ FIRST_HORIZON
    same n e = grind arith

    by : (v : Version) (n : ℕ) (ps : List Premise) → (says_nothing v ps && nat_eq n FIRST_HORIZON) ≡ true → record { version = v; horizon = n; premises = ps } ≡ empty_list
    by One n [] e = ap (λ h. record { version = One; horizon = h; premises = [] }) (same n e)
    by One n (p ∷ ps) e = absurd (cc (e))
    by Two n ps e = absurd (cc (e))

-- **Version 2 is opened at the empty list alone.**
pub opened_at : (s : Standing) → list_cause s Upgrade ≡ None → s ≡ empty_list
opened_at s none = by (is_empty s) refl none
  where
    by : (b : Bool) → is_empty s ≡ b → elim b as (λ _. Option Cause) [ true ↦ None | false ↦ Some out_of_form ] ≡ None → s ≡ empty_list
    by true e h = is_empty-is s e
    by false e h = absurd (cc (h))
