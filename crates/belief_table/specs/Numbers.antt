-- Names under small numbers.
use Rattle.std.specs.Prelude.{◌≡◌, ℕ, ◌<◌, List, [], length, Some, slice_index_or}
use Rattle.occ_tree.specs.Classes.{place_in}

-- the name of a number
abbrev pub name_in : List (List ℕ) → ℕ → List ℕ
name_in names k = slice_index_or names k []

-- each name has the number under which it stands
abbrev pub HaveOwnNumbers : List (List ℕ) → Type 0
HaveOwnNumbers names = (k : ℕ) → k < length names → place_in names (name_in names k) ≡ Some k
