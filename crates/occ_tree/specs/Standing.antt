-- Nodes with the lists of their children and the tokens of each class, as they are and as they
-- were.
use Rattle.std.specs.Prelude.{◌≡◌, ℕ, ℤ, ◌+◌, ◌<◌, List, [], ◌∷◌, Option, Some, None}
use Rattle.std.specs.Option.{option_map, option_map_or}
use Rattle.std.specs.declared.cmp.Ordering.{Ordering}
use Rattle.row_links.specs.Lists.{IsOn}
use Rattle.undo_rows.specs.declared.row.Row.{Row}
use Rattle.undo_rows.specs.Tables.{Table}
use Rattle.undo_rows.specs.Changes.{Logged}
use Rattle.undo_rows.specs.Changes as changes
use Rattle.undo_lists.specs.Changes.{Logged as LoggedLists}
use Rattle.undo_lists.specs.Changes as lists
use Rattle.tmm_model.specs.declared.token.TokenRow.{TokenRow}
use Rattle.occ_tree.specs.declared.node.Node.{Node}
use Rattle.spots.specs.declared.spot.Spot.{Spot}
use Rattle.spots.specs.Forest.{Forest}
use Rattle.occ_tree.specs.Nodes.{Nodes, parent_of, forest_in, date_in, FollowRoots, ArePlaced}
use Rattle.occ_tree.specs.Classes.{place_in, IsNumberOf}
use Rattle.occ_tree.specs.Tokens.{AreTokensBut}
use Rattle.occ_tree.specs.Words.{node_cmp}

-- the nodes of a table
abbrev pub nodes_in : Table Node 1 → Nodes
nodes_in t x = option_map (λ (r : Row Node 1). r.value) (t.row x)

-- under which head those stand whose parent this is: the roots under 0, the children of x under x +
-- 1
abbrev pub head_for : Option ℕ → ℕ
head_for None = 0
head_for (Some x) = x + 1

-- those whose parent this is, in the order in which they came; without one, the roots
abbrev pub siblings_in : Table Node 1 → Option ℕ → List ℕ
siblings_in t parent = t.list 0 (head_for parent)

-- each node is under the head of its parent and stands where it says, and its number is below the
-- limit
pub record IsStanding (limit : ℕ) (t : Table Node 1) : Type 0 where
  pub placed : ArePlaced (nodes_in t)
  pub heads : (x : ℕ) (r : Row Node 1) → t.row x ≡ Some r → r.heads ≡ Some (head_for (parent_of r.value)) ∷ []
  pub below : (x : ℕ) (r : Row Node 1) → t.row x ≡ Some r → x < limit

-- the rows of nodes
pub record Grove : Type 0 where
  pub rows : Logged Node 1

-- the nodes with their lists as they are
abbrev pub present_rows : Grove → Table Node 1
present_rows g = changes.present g.rows

-- the nodes with their lists as they were at the last commit
abbrev pub committed_rows : Grove → Table Node 1
committed_rows g = changes.committed g.rows

-- both stand right
pub record IsGrove (rows : Logged Node 1) : Type 0 where
  pub now : IsStanding rows.places (changes.present rows)
  pub then_ : IsStanding rows.places (changes.committed rows)

-- ---- the fields of a `Tree`

-- the list under the number of a class, no tokens where the class has none
abbrev pub tokens_under : List (List ℕ) → (ℕ → List (TokenRow Spot)) → List ℕ → List (TokenRow Spot)
tokens_under names rows class = option_map_or rows (place_in names class) []

-- The lists are of the tokens of each class in the order of nodes, each under the number of its
-- class. Each date is that of the root and the least delays on the way.
pub record AreKept (names : List (List ℕ)) (node : Nodes) (rows : ℕ → List (TokenRow Spot)) : Type 0 where
  pub tokens : AreTokensBut node rows []
  pub numbers : (x : ℕ) (n : Node) → node x ≡ Some n → IsNumberOf names n.class n.list
  pub dates : FollowRoots node

-- the nodes, the names of classes, and the lists of their tokens, with those of the last commit
pub record Kept : Type 0 where
  pub nodes : Grove
  pub classes : List (List ℕ)
  pub tokens : LoggedLists (TokenRow Spot)

-- both stand right
pub record IsTree (nodes : Grove) (classes : List (List ℕ)) (tokens : LoggedLists (TokenRow Spot)) : Type 0 where
  pub now : AreKept classes (nodes_in (present_rows nodes)) (lists.present tokens)
  pub then_ : AreKept classes (nodes_in (committed_rows nodes)) (lists.committed tokens)

-- ---- what contracts see of a `Tree`

-- the nodes with the lists of their children, and the tokens of each class
pub record State : Type 0 where
  pub rows : Table Node 1
  pub tokens : List ℕ → List (TokenRow Spot)

-- the tree as it is
abbrev pub present : Kept → State
present k = record { rows = present_rows k.nodes; tokens = tokens_under k.classes (lists.present k.tokens) }

-- the tree as it was at the last commit
abbrev pub committed : Kept → State
committed k = record { rows = committed_rows k.nodes; tokens = tokens_under k.classes (lists.committed k.tokens) }

-- the occurrences by their numbers
abbrev pub forest : State → Forest
forest s = forest_in (nodes_in s.rows)

-- the earliest date of a node, 0 where there is none
abbrev pub early : State → ℕ → ℤ
early s = date_in (nodes_in s.rows)

-- what rules lead to from a node by one more, in the order in which they came; without one, the
-- roots
abbrev pub below : State → Option ℕ → List ℕ
below s parent = siblings_in s.rows parent

-- x is on the list of what is below this parent
abbrev pub IsChildOf : State → Option ℕ → ℕ → Type 0
IsChildOf s parent x = IsOn (below s parent) x

-- the order of nodes: by their earliest dates, and then by the bytes of their words
abbrev pub order : State → ℕ → ℕ → Ordering
order s = node_cmp (nodes_in s.rows)
