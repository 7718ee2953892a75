-- The outcome of a decision, found fact by fact.
use Rattle.std.proofs.Common.{◌≡◌, ◌∙◌, ℕ, suc, ◌+◌, ◌<◌, Bool, true, false, List, [], ◌∷◌, ◌++◌, map, take, drop, length, get_or, refl, sym, ap, arith}
use Rattle.std.proofs.lemmas.Int.{ints}
use Rattle.std.specs.Prelude.{Option, Some, None, ℤ, pos, ◌≤ℤ◌, ◌<ℤ◌, int_le}
use Rattle.std.specs.List.{filter_map}
use Rattle.std.specs.Option.{option_map}
use Rattle.std.proofs.Math.Seq.{drop-cons}
use Rattle.std.proofs.lemmas.List.{length-map, length-take-le, map-append, take-append-drop}
use Rattle.belief_theory.specs.Outcomes.{Outcome, fires, blocked, barred, beyond, first_without, first_with, unblocked, tried, outcome}
use Rattle.belief_theory.proofs.Outcomes.{none_or}
use Rattle.tmm_model.specs.Beliefs.{due, supporters, against}
use Rattle.tmm_model.specs.Moments.{Moment, Distances}
use Rattle.tmm_model.specs.Standing.{Standing}
use Rattle.supports.proofs.Taken.{next_taken}
use Rattle.projection.proofs.Dates.{past_horizon}

-- ---- antecedents

-- what is tried is blocked at the first antecedent that has no supporter
tried_is_blocked : (found against : List (Option Moment)) (place : ℕ) → first_without found ≡ Some place → tried found against ≡ blocked place
tried_is_blocked found against place e = ap (λ o. elim o as (λ _. Outcome) [ Some at ↦ blocked at | None ↦ unblocked (filter_map (λ k. k) found) against ]) e

-- where each has one, it depends on the exceptions
pub tried_is_unblocked : (found against : List (Option Moment)) → first_without found ≡ None → tried found against ≡ unblocked (filter_map (λ k. k) found) against
tried_is_unblocked found against e = ap (λ o. elim o as (λ _. Outcome) [ Some at ↦ blocked at | None ↦ unblocked (filter_map (λ k. k) found) against ]) e

with_one : (found : List (Option Moment)) (k : Moment) → first_without found ≡ None → first_without (found ++ Some k ∷ []) ≡ None
with_one [] k e = refl
with_one (None ∷ found) k e = cc
with_one (Some x ∷ found) k e = ap (option_map suc) (with_one found k ((none_or suc (first_without found)).0 e))

first_missing : (found rest : List (Option Moment)) → first_without found ≡ None → first_without (found ++ None ∷ rest) ≡ Some (length found)
first_missing [] rest e = refl
first_missing (None ∷ found) rest e = cc
first_missing (Some x ∷ found) rest e = ap (option_map suc) (first_missing found rest ((none_or suc (first_without found)).0 e))

-- `h` tells the first supporter of a fact, and each of the facts before this one has one
module _ {A : Type 0} (h : A → Option Moment) (facts : List A) (i : ℕ) (fact : A) (below : i < length facts) (is : fact ≡ get_or facts i fact) (before : first_without (map h (take i facts)) ≡ None) where
  -- this one has one too
  pub one_more : (h fact ≡ None → ⊥) → first_without (map h (take (i + 1) facts)) ≡ None
  one_more = by (h fact) refl
    where
      by : (o : Option Moment) → h fact ≡ o → (o ≡ None → ⊥) → first_without (map h (take (i + 1) facts)) ≡ None
      by None e has = absurd (has refl)
      by (Some k) e has =
          ap first_without (ap (map h) (next_taken facts i fact below is) ∙ map-append h (take i facts) (fact ∷ []) ∙ ap (λ o. map h (take i facts) ++ o ∷ []) e)
          ∙ with_one (map h (take i facts)) k before

  -- this one has none
  pub tried_blocked : (against : List (Option Moment)) → h fact ≡ None → blocked i ≡ tried (map h facts) against
  tried_blocked against none = sym (tried_is_blocked (map h facts) against i (ap first_without whole ∙ first_missing (map h (take i facts)) (map h (drop (suc i) facts)) before ∙ ap Some count))
    where
      at_drop : drop i facts ≡ fact ∷ drop (suc i) facts
      at_drop = drop-cons facts i fact below ∙ ap (λ y. y ∷ drop (suc i) facts) (sym is)

      whole : map h facts ≡ map h (take i facts) ++ None ∷ map h (drop (suc i) facts)
      whole =
          ap (map h) (sym (take-append-drop i facts) ∙ ap (λ l. take i facts ++ l) at_drop)
          ∙ map-append h (take i facts) (fact ∷ drop (suc i) facts)
          ∙ ap (λ o. map h (take i facts) ++ o ∷ map h (drop (suc i) facts)) none

      count : length (map h (take i facts)) ≡ i
      count = length-map (take i facts) h ∙ length-take-le i facts (omega arith)

-- ---- supporters that are found so far

module _ {A X : Type 0} (g : X → Moment) (h : A → Option Moment) where
  pub found_more : (xs : List X) (facts : List A) (i : ℕ) (x : X) (fact : A) → map (λ y. Some (g y)) xs ≡ map h (take i facts) → i < length facts → fact ≡ get_or facts i fact
      → Some (g x) ≡ h fact → map (λ y. Some (g y)) (xs ++ x ∷ []) ≡ map h (take (i + 1) facts)
  found_more xs facts i x fact before below is one =
      map-append (λ y. Some (g y)) xs (x ∷ [])
      ∙ (λ j. before j ++ one j ∷ [])
      ∙ sym (map-append h (take i facts) (fact ∷ []))
      ∙ ap (map h) (sym (next_taken facts i fact below is))

  -- none of them is missing
  pub all_there : (xs : List X) (found : List (Option Moment)) → map (λ y. Some (g y)) xs ≡ found → first_without found ≡ None
  all_there xs found is = ap first_without (sym is) ∙ by xs
    where
      by : (xs : List X) → first_without (map (λ y. Some (g y)) xs) ≡ None
      by [] = refl
      by (x ∷ xs) = ap (option_map suc) (by xs)

  those_there : (xs : List X) → filter_map (λ k. k) (map (λ y. Some (g y)) xs) ≡ map g xs
  those_there [] = refl
  those_there (x ∷ xs) = ap (λ l. g x ∷ l) (those_there xs)

  -- all of them are there, so it depends on the exceptions
  pub tried_unblocked : (xs : List X) (facts : List A) (against : List (Option Moment)) → map (λ y. Some (g y)) xs ≡ map h facts → unblocked (map g xs) against ≡ tried (map h facts) against
  tried_unblocked xs facts against is =
      ap (λ ks. unblocked ks against) (sym (those_there xs) ∙ ap (filter_map (λ k. k)) is)
      ∙ sym (tried_is_unblocked (map h facts) against (all_there xs (map h facts) is))

-- ---- exceptions

-- one has a supporter
pub is_barred : (ks : List Moment) (against : List (Option Moment)) (place : ℕ) → Some place ≡ first_with against → barred place ≡ unblocked ks against
is_barred ks against place e = by (first_with against) e
  where
    by : (o : Option ℕ) → Some place ≡ o → barred place ≡ elim o as (λ _. Outcome) [ Some place ↦ barred place | None ↦ fires ks ]
    by None e = cc
    by (Some at) e = (let same : place ≡ at = cc in ap barred same)

-- none has
pub is_fired : (ks : List Moment) (against : List (Option Moment)) → None ≡ first_with against → fires ks ≡ unblocked ks against
is_fired ks against e = by (first_with against) e
  where
    by : (o : Option ℕ) → None ≡ o → fires ks ≡ elim o as (λ _. Outcome) [ Some place ↦ barred place | None ↦ fires ks ]
    by None e = refl
    by (Some at) e = cc

-- ---- dates

-- it is due in time
pub is_tried : (s : Standing) (far : Distances) (b : List Moment) (t : Moment) (r : List ℕ) → due s far t r ≤ℤ pos s.horizon → tried (supporters s far b t r) (against s far b t r) ≡ outcome s far b t r
is_tried s far b t r in_time = by (int_le (due s far t r) (pos s.horizon)) (le (due s far t r) s.horizon in_time)
  where
    le : (z : ℤ) (h : ℕ) → z ≤ℤ pos h → int_le z (pos h) ≡ true
    le z h l = grind (arith, ints)

    by : (v : Bool) → v ≡ true → tried (supporters s far b t r) (against s far b t r)
        ≡ elim v as (λ _. Outcome) [ false ↦ beyond | true ↦ tried (supporters s far b t r) (against s far b t r) ]
    by true e = refl
    by false e = cc

-- it is due after the horizon
pub is_beyond : (s : Standing) (far : Distances) (b : List Moment) (t : Moment) (r : List ℕ) → pos s.horizon <ℤ due s far t r → beyond ≡ outcome s far b t r
is_beyond s far b t r late = by (int_le (due s far t r) (pos s.horizon)) (past_horizon s.horizon (due s far t r) late)
  where
    by : (v : Bool) → v ≡ false → beyond ≡ elim v as (λ _. Outcome) [ false ↦ beyond | true ↦ tried (supporters s far b t r) (against s far b t r) ]
    by false e = refl
    by true e = cc
