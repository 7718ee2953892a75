-- The verdict on a rule, and what frees it.
use Rattle.std.proofs.Common.{◌≡◌, ℕ, Bool, true, false, List, refl, sym}
use Rattle.std.specs.Prelude.{◌↔◌, Option, Some, None}
use Rattle.std.specs.List.{filter_map}
use Rattle.belief_theory.specs.Outcomes.{Outcome, fires, blocked, barred, first_without, first_with, tried}
use Rattle.tmm_model.specs.Moments.{Moment}
use Rattle.projection.specs.declared.judging.Verdict.{Verdict}
use Rattle.projection.specs.declared.judging.Verdict.TheVariants.{Fires, Blocked, Barred, Beyond}
use Rattle.projection.specs.Verdicts.{verdict_of}

-- whether it is that the rule fires
abbrev pub fires_by : Verdict → Bool
fires_by Fires = true
fires_by (Blocked antecedent) = false
fires_by (Barred exception) = false
fires_by Beyond = false

pub unfired : (v : Verdict) → (v ≡ Fires → ⊥) → fires_by v ≡ false
unfired Fires other = absurd (other refl)
unfired (Blocked antecedent) other = refl
unfired (Barred exception) other = refl
unfired Beyond other = refl

-- **What is tried fires exactly where no antecedent is missing and no exception is there.**
pub fires_if_free : (found against : List (Option Moment)) (free : Bool) → ((first_without found ≡ None) × (first_with against ≡ None)) ↔ (free ≡ true) → fires_by (verdict_of (tried found against)) ≡ free
fires_if_free found against free is = by (first_without found) (first_with against) free is
  where
    by : (o p : Option ℕ) (free : Bool) → ((o ≡ None) × (p ≡ None)) ↔ (free ≡ true)
        → fires_by (verdict_of (elim o as (λ _. Outcome) [
          | Some place ↦ blocked place
          | None ↦ elim p as (λ _. Outcome) [ Some place ↦ barred place | None ↦ fires (filter_map (λ k. k) found) ]
        ])) ≡ free
    by None None free is = sym (is.0 (refl, refl))
    by None (Some place) true is = let e : Some place ≡ None = (is.1 refl).1 in cc
    by None (Some place) false is = refl
    by (Some place) p true is = let e : Some place ≡ None = (is.1 refl).0 in cc
    by (Some place) p false is = refl
