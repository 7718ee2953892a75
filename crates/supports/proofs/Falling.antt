-- Lists that rise, and lists that fall.
use Rattle.std.proofs.Common.{◌≡◌, ℕ, zero, suc, ◌+◌, ◌<◌, ◌≤◌, Bool, false, List, [], ◌∷◌, ◌++◌, map, refl, sym, ◌∙◌, ap, subst, inl, inr, arith}
use Rattle.std.specs.Prelude.{Option, Some, None, length, slice_index_or, slice_set}
use Rattle.std.specs.List.{AllByRecursion}
use Rattle.std.specs.List.Sorted.{IsStrictlySortedBy}
use Rattle.std.specs.Ordering.{is_gt}
use Rattle.std.specs.declared.cmp.Ordering.{Ordering}
use Rattle.std.specs.declared.cmp.Ordering.TheVariants.{Less}
use Rattle.std.proofs.lemmas.Bool.{cases_lt, cases_order}
use Rattle.std.proofs.lemmas.List.{get_or_append_left, get_or_push, get_or-set_same, get_or-set_other, length-append}
use Rattle.std.proofs.lemmas.List.Elements.{All-contains, Contains-get_or}
use Rattle.std.proofs.lemmas.Map.Keys.{sorted_tail}
use Rattle.std.proofs.lemmas.Map.Views.{All-after_first}
use Rattle.belief_theory.specs.FirstPlaces.{IsFirstPlace}
use Rattle.list_theory.proofs.Elements.{In, In-from_Contains, Contains-from_In, In-right}
use Rattle.clipping.specs.Lasts.{IsLastPlace}

-- ---- places in a rising list

-- the first is less than what stands behind it
pub first_less : {X : Type 0} (cmp : X → X → Ordering) (x : X) (xs : List X) → IsStrictlySortedBy cmp (x ∷ xs) → (y : X) → In y xs → cmp x y ≡ Less
first_less cmp x xs up y at = All-contains (λ z. cmp x z ≡ Less) xs y (All-after_first cmp x xs up) (Contains-from_In xs y at)

-- what is not less than x, nor x itself, stands behind it
pub stands_behind : {X : Type 0} (cmp : X → X → Ordering) (front : List X) (x : X) (back : List X) → IsStrictlySortedBy cmp (front ++ x ∷ back)
    → (y : X) → (cmp y x ≡ Less → ⊥) → (x ≡ y → ⊥) → In y (front ++ x ∷ back) → In y back
stands_behind cmp [] x back up y after other (inl is) = absurd (other is)
stands_behind cmp [] x back up y after other (inr at) = at
stands_behind cmp (z ∷ front) x back up y after other (inl is) =
    absurd (after (subst (λ w. cmp w x ≡ Less) is (first_less cmp z (front ++ x ∷ back) up x (In-right front (x ∷ back) x (inl refl)))))
stands_behind cmp (z ∷ front) x back up y after other (inr at) = stands_behind cmp front x back (sorted_tail cmp z (front ++ x ∷ back) up) y after other at

-- what stands behind x rises as well
pub sorted_back : {X : Type 0} (cmp : X → X → Ordering) (front : List X) (x : X) (back : List X) → IsStrictlySortedBy cmp (front ++ x ∷ back) → IsStrictlySortedBy cmp back
sorted_back cmp [] x back up = sorted_tail cmp x back up
sorted_back cmp (z ∷ front) x back up = sorted_back cmp front x back (sorted_tail cmp z (front ++ x ∷ back) up)

-- a list rises where each is less than those at later places
pub rising : {X : Type 0} (cmp : X → X → Ordering) (xs : List X) → ((i j : ℕ) (d : X) → i < j → j < length xs → cmp (slice_index_or xs i d) (slice_index_or xs j d) ≡ Less) → IsStrictlySortedBy cmp xs
unfolding IsStrictlySortedBy
rising cmp [] pairs = tt
rising {X} cmp (x ∷ xs) pairs = (each xs (λ j d h. pairs zero (suc j) d (omega arith) (omega arith)), rising cmp xs (λ i j d l h. pairs (suc i) (suc j) d (omega arith) (omega arith)))
  where
    each : (ys : List X) → ((j : ℕ) (d : X) → j < length ys → cmp x (slice_index_or ys j d) ≡ Less) → AllByRecursion (λ y. cmp x y ≡ Less) ys
    each [] h = tt
    each (y ∷ ys) h = (h zero y (omega arith), each ys (λ j d low. h (suc j) d (omega arith)))

-- ---- lists that fall

-- each of the list is less than those before it
abbrev pub Falls : {X : Type 0} → (X → X → Ordering) → List X → Type 0
Falls {X} cmp xs = (i j : ℕ) (d : X) → i < j → j < length xs → cmp (slice_index_or xs j d) (slice_index_or xs i d) ≡ Less

-- one more, less than each of the list
pub Falls-push : {X : Type 0} (cmp : X → X → Ordering) (xs : List X) (y : X) → Falls cmp xs → ((x : X) → In x xs → cmp y x ≡ Less) → Falls cmp (xs ++ y ∷ [])
Falls-push cmp xs y falls less i j d lt within = elim (cases_lt j (length xs)) [
  | inl inside ↦
      let at_j = get_or_append_left xs (y ∷ []) d j inside in
      let at_i = get_or_append_left xs (y ∷ []) d i (omega arith) in
      (λ k. cmp (at_j k) (at_i k)) ∙ falls i j d lt inside
  | inr beyond ↦
      let last : length xs ≡ j = omega (arith, length-append xs (y ∷ [])) in
      let inside : i < length xs = omega arith in
      let at_j = get_or_push xs y d j last in
      let at_i = get_or_append_left xs (y ∷ []) d i inside in
      (λ k. cmp (at_j k) (at_i k)) ∙ less (slice_index_or xs i d) (In-from_Contains xs (slice_index_or xs i d) (Contains-get_or xs i d inside))
]

-- in a list that falls, the last that passes is the first by the order
pub last_is_first : {X : Type 0} (cmp : X → X → Ordering) (test : X → Bool) (xs : List X) → Falls cmp xs → ((x : X) → In x xs → is_gt (cmp x x) ≡ false)
    → (place : Option ℕ) → IsLastPlace test xs place → IsFirstPlace cmp test xs place
last_is_first cmp test xs falls itself None h = h
last_is_first cmp test xs falls itself (Some i) h = record {
  within = h.within;
  passes = h.passes;
  least = λ j d lt passes. elim (cases_order i j) [
    | inl same ↦
        subst (λ k. is_gt (cmp (slice_index_or xs i d) (slice_index_or xs k d)) ≡ false) same
        (itself (slice_index_or xs i d) (In-from_Contains xs (slice_index_or xs i d) (Contains-get_or xs i d h.within)))
    | inr h2 ↦ elim h2 [
      | inl behind ↦ (let fails : test (slice_index_or xs j d) ≡ false = h.fail j d behind lt in cc)
      | inr before ↦ ap is_gt (falls j i d before h.within)
    ]
  ];
}

-- ---- places

-- two lists that are taken to the same at each place
pub same_maps : {A B C : Type 0} (f : A → C) (g : B → C) (d : A) (e : B) (xs : List A) (ys : List B) → length xs ≡ length ys
    → ((j : ℕ) → j < length ys → f (slice_index_or xs j d) ≡ g (slice_index_or ys j e)) → map f xs ≡ map g ys
same_maps f g d e [] [] len h = refl
same_maps f g d e [] (y ∷ ys) len h = absurd (omega arith)
same_maps f g d e (x ∷ xs) [] len h = absurd (omega arith)
same_maps f g d e (x ∷ xs) (y ∷ ys) len h = λ i. h 0 (omega arith) i ∷ same_maps f g d e xs ys (omega arith) (λ j lt. h (suc j) (omega arith)) i

-- what holds of each element behind a place, and of the one set there, holds from that place on
pub set_on : {A : Type 0} (P : ℕ → A → Type 0) (xs : List A) (n i k : ℕ) (x : A) → length xs ≡ n → k + 1 ≡ i → k < n → P k x
    → ((j : ℕ) (d : A) → i ≤ j → j < n → P j (slice_index_or xs j d)) → (j : ℕ) (d : A) → k ≤ j → j < n → P j (slice_index_or (slice_set xs k x) j d)
set_on P xs n i k x len next within here behind j d from lt = elim (cases_order j k) [
  | inl same ↦
      let is = get_or-set_same xs k x d (omega arith) in
      subst (λ z. P z (slice_index_or (slice_set xs k x) z d)) (sym same) (subst (P k) (sym is) here)
  | inr other ↦ elim other [
    | inl before ↦ absurd (omega arith)
    | inr after ↦
        let is = get_or-set_other xs k j x d (λ same. omega arith) in
        subst (P j) (sym is) (behind j d (omega arith) lt)
  ]
]
