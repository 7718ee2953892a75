-- What becomes of each rule at each event.
use Rattle.std.specs.Prelude.{ℕ, suc, pos, true, false, List, [], ◌∷◌, map, Option, Some, None, int_le}
use Rattle.std.specs.List.{filter_map, flat_map}
use Rattle.std.specs.Option.{option_map}
use Rattle.tmm_model.specs.Moments.{Moment, Distances}
use Rattle.tmm_model.specs.Standing.{Standing}
use Rattle.tmm_model.specs.Beliefs.{rules_at, due, supporters, against}

-- What becomes of a rule at an event.
pub data Outcome : Type 0 where
  -- its effect is believed; these are the first supporters of its antecedents
  fires : List Moment → Outcome
  -- the antecedent at this place is the first without a supporter
  blocked : ℕ → Outcome
  -- no antecedent blocks it; the exception at this place is the first that has a supporter
  barred : ℕ → Outcome
  -- its effect would begin after the horizon
  beyond : Outcome

-- the place of the first that is none
abbrev pub first_without : List (Option Moment) → Option ℕ
first_without [] = None
first_without (None ∷ found) = Some 0
first_without (Some k ∷ found) = option_map suc (first_without found)

-- the place of the first that is not none
abbrev pub first_with : List (Option Moment) → Option ℕ
first_with [] = None
first_with (Some k ∷ found) = Some 0
first_with (None ∷ found) = option_map suc (first_with found)

-- what becomes of a rule that these supporters leave unblocked, by the first supporters of its
-- exceptions
abbrev pub unblocked : List Moment → List (Option Moment) → Outcome
unblocked ks against = elim (first_with against) [ Some place ↦ barred place | None ↦ fires ks ]

-- what becomes of a rule in time, by the first supporters of its antecedents, and then of its
-- exceptions
abbrev pub tried : List (Option Moment) → List (Option Moment) → Outcome
tried found against = elim (first_without found) [ Some place ↦ blocked place | None ↦ unblocked (filter_map (λ k. k) found) against ]

module _ (s : Standing) (far : Distances) where
  -- the outcome of r at t, among the occurrences b
  abbrev pub outcome : List Moment → Moment → List ℕ → Outcome
  outcome b t r = elim (int_le (due s far t r) (pos s.horizon)) [ false ↦ beyond | true ↦ tried (supporters s far b t r) (against s far b t r) ]

-- the decisions among the occurrences b: each event, with each standing rule on its kind
abbrev pub decisions : Standing → List Moment → List (Moment × List ℕ)
decisions s b = flat_map (λ t. map (λ r. (t, r)) (rules_at s t)) b
