-- The first of a list by an order, and the list in that order.
use Rattle.std.specs.Prelude.{true, false, List, [], ◌∷◌, Option, Some, None}
use Rattle.std.specs.declared.cmp.Ordering.{Ordering}
use Rattle.std.specs.Ordering.{is_lt, is_gt}

module _ {A : Type 0} (cmp : A → A → Ordering) where
  -- the first of x and xs
  abbrev pub earliest : A → List A → A
  earliest x [] = x
  earliest x (y ∷ ys) = elim (is_lt (cmp y x)) [ true ↦ earliest y ys | false ↦ earliest x ys ]

  -- the first of xs, none where there is none
  abbrev pub first : List A → Option A
  first [] = None
  first (x ∷ xs) = Some (earliest x xs)

  -- xs with x in its place
  abbrev pub placed : A → List A → List A
  placed x [] = x ∷ []
  placed x (y ∷ ys) = elim (is_gt (cmp x y)) [ true ↦ y ∷ placed x ys | false ↦ x ∷ y ∷ ys ]

  -- xs in order
  abbrev pub sorted : List A → List A
  sorted [] = []
  sorted (x ∷ xs) = placed x (sorted xs)
