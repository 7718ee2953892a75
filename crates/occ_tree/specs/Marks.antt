-- Marks of numbers.
use Rattle.std.specs.Prelude.{◌≡◌, ℕ, ◌<◌, Bool, true, false, List, length, slice_index_or}
use Rattle.std.specs.List.{Contains}
use Rattle.occ_tree.specs.Nodes.{Nodes}
use Rattle.occ_tree.specs.Tokens.{HasList}

-- the number is marked
abbrev pub IsMarked : List Bool → ℕ → Type 0
IsMarked marks k = slice_index_or marks k false ≡ true

-- there is a mark for as many numbers, and what was marked is
pub record KeepsMarks (old new : List Bool) : Type 0 where
  pub long : length new ≡ length old
  pub kept : (k : ℕ) → IsMarked old k → IsMarked new k

-- those of the numbers for which there is a mark are marked
abbrev pub AreMarked : List Bool → List ℕ → Type 0
AreMarked marks numbers = (k : ℕ) → Contains numbers k → k < length marks → IsMarked marks k

-- those of the classes of these nodes for which there is a mark are marked
abbrev pub AreListsMarked : Nodes → List Bool → List ℕ → Type 0
AreListsMarked node marks numbers = (x k : ℕ) → Contains numbers x → HasList node x k → k < length marks → IsMarked marks k
