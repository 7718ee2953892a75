-- Elements of several lists that pass a test.
use Rattle.std.proofs.Common.{◌≡◌, ◌∙◌, ℕ, zero, suc, ◌<◌, Bool, true, false, List, [], ◌∷◌, length, refl, sym, subst, ◌≤◌, arith}
use Rattle.std.specs.Prelude.{Option, Some, None}
use Rattle.std.specs.List.{list_any}
use Rattle.std.specs.Option.{ForSome}
use Rattle.std.proofs.lemmas.Bool.{or_left, or_right, or_from}
use Rattle.std.proofs.lemmas.List.Folds.{list_any-append}
use Rattle.std.specs.declared.cmp.Ordering.{Ordering}
use Rattle.belief_theory.specs.FirstPlaces.{IsFirstPlace}
use Rattle.clipping.specs.declared.across.Place.{Place}
use Rattle.clipping.specs.Across.{list_at, all_of, IsPlace, IsFirstPlaceInLists}

-- what one list passes, all together do
pub any_of_all : {A : Type 0} (test : A → Bool) (lists : List (List A)) (i : ℕ) → i < length lists → list_any test (list_at lists i) ≡ true → list_any test (all_of lists) ≡ true
any_of_all test [] i lt e = absurd (omega arith)
any_of_all test (l ∷ lists) zero lt e = list_any-append test l (all_of lists) ∙ or_left (list_any test l) (list_any test (all_of lists)) e
any_of_all test (l ∷ lists) (suc i) lt e = list_any-append test l (all_of lists) ∙ or_right (list_any test l) (list_any test (all_of lists)) (any_of_all test lists i (omega arith) e)

-- what no list passes, all together do not
pub none_of_all : {A : Type 0} (test : A → Bool) (lists : List (List A)) → ((i : ℕ) → i < length lists → list_any test (list_at lists i) ≡ false) → list_any test (all_of lists) ≡ false
none_of_all test [] h = refl
none_of_all test (l ∷ lists) h = list_any-append test l (all_of lists) ∙ or_from (list_any test l) (list_any test (all_of lists)) (h 0 (omega arith)) (none_of_all test lists (λ i lt. h (suc i) (omega arith)))

-- a place that was found is within the list
pub found_within : {A : Type 0} (cmp : A → A → Ordering) (test : A → Bool) (xs : List A) (place : Option ℕ) → IsFirstPlace cmp test xs place → ForSome place (λ i. i < length xs)
found_within cmp test xs None none i same = absurd (let no = sym same in cc)
found_within cmp test xs (Some j) first i same = let is : j ≡ i = cc in subst (λ m. m < length xs) is first.within

-- the place of the first in the first lists is one of a token
pub best_within : {A : Type 0} (cmp : A → A → Ordering) (test : A → Bool) (lists : List (List A)) (n : ℕ) → n ≤ length lists → (best : Option Place) → IsFirstPlaceInLists cmp test lists n best → ForSome best (IsPlace lists)
best_within cmp test lists n le None none p same = absurd (let no = sym same in cc)
best_within cmp test lists n le (Some b) best p same =
    let less : b.list < n = best.list in
    let here : IsPlace lists b = record { list = omega arith; within = best.within } in
    let is : b ≡ p = cc in subst (IsPlace lists) is here
