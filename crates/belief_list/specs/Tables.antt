-- Tables from numbers to places in a list.
use Rattle.std.specs.Prelude.{◌≡◌, ℕ, List, Option, Some, None, IsSome, slice_index_or, slice_get}
use Rattle.std.specs.List.{Contains}
use Rattle.std.specs.Option.{option_and_then}

-- the place under a number, none where none stands there
abbrev pub place_in : List (Option ℕ) → ℕ → Option ℕ
place_in places x = slice_index_or places x None

-- the item at a place
abbrev pub item_at : {X : Type 0} → List X → Option ℕ → Option X
item_at xs place = option_and_then (slice_get xs) place

-- the item whose place stands under a number
abbrev pub item_under : {X : Type 0} → List X → List (Option ℕ) → ℕ → Option X
item_under xs places x = item_at xs (place_in places x)

-- **Under each number of the list stands a place where it is**, and nothing under others.
pub record IsTable (numbers : List ℕ) (places : List (Option ℕ)) : Type 0 where
  pub found : (x i : ℕ) → place_in places x ≡ Some i → slice_get numbers i ≡ Some x
  pub all : (x : ℕ) → Contains numbers x → IsSome (place_in places x)
