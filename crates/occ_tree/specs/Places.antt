-- What contracts above see of a `Tree`.
use Rattle.std.specs.Prelude.{ℕ}
use Rattle.undo_rows.specs.Places as rows
use Rattle.spots.specs.Forest.{Forest}
use Rattle.occ_tree.specs.Standing.{Kept, present}
use Rattle.occ_tree.specs.Standing as standing

-- the nodes as occurrences, by their numbers
abbrev pub forest : Kept → Forest
forest k = standing.forest (present k)

-- how many places there are for nodes, which have numbers below it
abbrev pub places : Kept → ℕ
places k = k.nodes.rows.places

-- There are as many places as before, or one more where each was taken: a node has its number, or
-- had it and was withdrawn since the last commit.
abbrev pub PlacesGrow : Kept → Kept → Type 0
PlacesGrow old new = rows.PlacesGrow old.nodes.rows new.nodes.rows
