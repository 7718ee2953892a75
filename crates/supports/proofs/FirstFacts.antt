-- The first of some facts that has a supporter, found fact by fact.
use Rattle.std.proofs.Common.{◌≡◌, ◌∙◌, ℕ, suc, ◌+◌, ◌<◌, Bool, true, false, not, List, [], ◌∷◌, ◌++◌, map, take, drop, length, get_or, refl, sym, ap, arith}
use Rattle.std.specs.Prelude.{Option, Some, None, is_some, is_none}
use Rattle.std.specs.Option.{option_map}
use Rattle.std.proofs.Math.Seq.{drop-cons}
use Rattle.std.proofs.lemmas.List.{length-map, length-take-le, map-append, take-append-drop}
use Rattle.tmm_model.specs.Moments.{Moment}
use Rattle.belief_theory.specs.Outcomes.{first_with}
use Rattle.belief_theory.proofs.Outcomes.{none_or}
use Rattle.supports.proofs.Taken.{next_taken}

with_none : (xs : List (Option Moment)) → first_with xs ≡ None → first_with (xs ++ None ∷ []) ≡ None
with_none [] e = refl
with_none (Some k ∷ xs) e = cc
with_none (None ∷ xs) e = ap (option_map suc) (with_none xs ((none_or suc (first_with xs)).0 e))

with_some : (xs ys : List (Option Moment)) (k : Moment) → first_with xs ≡ None → first_with (xs ++ Some k ∷ ys) ≡ Some (length xs)
with_some [] ys k e = refl
with_some (Some x ∷ xs) ys k e = cc
with_some (None ∷ xs) ys k e = ap (option_map suc) (with_some xs ys k ((none_or suc (first_with xs)).0 e))

-- `h` tells the first supporter of a fact, and none of the facts before this one has any
module _ {A : Type 0} (h : A → Option Moment) (facts : List A) (i : ℕ) (fact : A) (below : i < length facts) (is : fact ≡ get_or facts i fact) (before : first_with (map h (take i facts)) ≡ None) where
  -- nor has this one
  pub none_yet : h fact ≡ None → first_with (map h (take (i + 1) facts)) ≡ None
  none_yet none =
      ap first_with (ap (map h) (next_taken facts i fact below is) ∙ map-append h (take i facts) (fact ∷ []) ∙ ap (λ o. map h (take i facts) ++ o ∷ []) none)
      ∙ with_none (map h (take i facts)) before

  -- this one has one
  pub first_here : (h fact ≡ None → ⊥) → Some i ≡ first_with (map h facts)
  first_here = by (h fact) refl
    where
      at_drop : drop i facts ≡ fact ∷ drop (suc i) facts
      at_drop = drop-cons facts i fact below ∙ ap (λ y. y ∷ drop (suc i) facts) (sym is)

      whole : (k : Moment) → h fact ≡ Some k → map h facts ≡ map h (take i facts) ++ Some k ∷ map h (drop (suc i) facts)
      whole k e =
          ap (map h) (sym (take-append-drop i facts) ∙ ap (λ l. take i facts ++ l) at_drop)
          ∙ map-append h (take i facts) (fact ∷ drop (suc i) facts)
          ∙ ap (λ o. map h (take i facts) ++ o ∷ map h (drop (suc i) facts)) e

      by : (o : Option Moment) → h fact ≡ o → (o ≡ None → ⊥) → Some i ≡ first_with (map h facts)
      by None e has = absurd (has refl)
      by (Some k) e has =
          sym (ap first_with (whole k e) ∙ with_some (map h (take i facts)) (map h (drop (suc i) facts)) k before ∙ ap Some (length-map (take i facts) h ∙ length-take-le i facts (omega arith)))

-- a call that says whether one is there tells so whether none is
pub told_none : (found : Option ℕ) (none : Bool) → is_some found ≡ not none → none ≡ is_none found
told_none None true e = refl
told_none None false e = cc
told_none (Some place) true e = cc
told_none (Some place) false e = refl
