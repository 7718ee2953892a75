-- The tokens of each class, in the order of occurrences.
use Rattle.std.specs.Prelude.{◌≡◌, ◌≢◌, ℕ, Bool, false, cond, eqb, ◌+◌, ◌<◌, ◌≤◌, ◌↔◌, List, [], ◌∷◌, map, take, drop, length, Some, None, IsSome}
use Rattle.std.specs.Option.{option_map, option_map_or}
use Rattle.std.specs.declared.cmp.Ordering.{Ordering}
use Rattle.std.specs.declared.cmp.Ordering.TheVariants.{Less}
use Rattle.row_links.specs.Lists.{IsOn}
use Rattle.undo_lists.specs.Changes.{Logged, present, rooms}
use Rattle.tmm_model.specs.declared.token.TokenRow.{TokenRow}
use Rattle.occ_tree.specs.declared.node.Node.{Node}
use Rattle.spots.specs.declared.spot.Spot.{Spot}
use Rattle.spots.specs.declared.spot.Spot.TheVariants.{Declared, Node as OfNode}
use Rattle.occ_tree.specs.Nodes.{Nodes}
use Rattle.occ_tree.specs.Words.{node_cmp}

-- the number of the node at which a row stands
abbrev pub number_of : Spot → ℕ
number_of (Declared p) = p
number_of (OfNode x) = x

-- the numbers of the nodes of rows
abbrev pub numbers_in : List (TokenRow Spot) → List ℕ
numbers_in rows = map (λ row. number_of row.spot) rows

-- the row of a node
abbrev pub row_in : Nodes → ℕ → TokenRow Spot
row_in node x = record {
  spot = OfNode x;
  end = option_map_or (λ (n : Node). option_map Declared n.end) (node x) None;
  fact = option_map_or (λ (n : Node). n.what) (node x) [];
  class = option_map_or (λ (n : Node). option_map_or (λ (c : List ℕ). c) n.class n.what) (node x) [];
}

-- each stands before those behind it
abbrev pub IsInOrder : (ℕ → ℕ → Ordering) → List ℕ → Type 0
IsInOrder cmp [] = Unit {0}
IsInOrder cmp (x ∷ xs) = ((y : ℕ) → IsOn xs y → cmp x y ≡ Less) × IsInOrder cmp xs

-- all before the place are before x, and none from there on is
pub record IsPlaceFor (cmp : ℕ → ℕ → Ordering) (xs : List ℕ) (x i : ℕ) : Type 0 where
  pub within : i ≤ length xs
  pub before : (y : ℕ) → IsOn (take i xs) y → cmp y x ≡ Less
  pub after : (y : ℕ) → IsOn (drop i xs) y → cmp y x ≢ Less

-- the node is a token of the class of this small number
abbrev pub HasList : Nodes → ℕ → ℕ → Type 0
HasList node x k = (n : Node) × (node x ≡ Some n) × (n.list ≡ Some k)

-- the list has room for a token more, and so has the log for a change
abbrev pub HasRoom : Logged (TokenRow Spot) → ℕ → Type 0
HasRoom tokens k = (length (present tokens k) < rooms tokens k) × (0 < tokens.spare)

-- whether the node is a token of the class of this small number
abbrev pub is_of : Nodes → ℕ → ℕ → Bool
is_of node k x = option_map_or (λ (n : Node). option_map_or (eqb k) n.list false) (node x) false

-- how many of the nodes are tokens of that class
abbrev pub count_of : Nodes → ℕ → List ℕ → ℕ
count_of node k [] = 0
count_of node k (x ∷ xs) = cond (is_of node k x) (count_of node k xs + 1) (count_of node k xs)

-- the list of each class that some of the nodes are of has room for these
abbrev pub HaveRoomFor : Nodes → Logged (TokenRow Spot) → List ℕ → Type 0
HaveRoomFor node tokens xs = (k : ℕ) → 0 < count_of node k xs → length (present tokens k) + count_of node k xs ≤ rooms tokens k

-- the lists are of the tokens of each class but those of some nodes, in the order of their nodes
pub record AreTokensBut (node : Nodes) (lists : ℕ → List (TokenRow Spot)) (out : List ℕ) : Type 0 where
  pub rows : (k : ℕ) → lists k ≡ map (row_in node) (numbers_in (lists k))
  pub each : (y k : ℕ) → IsOn (numbers_in (lists k)) y ↔ (HasList node y k × (IsOn out y → ⊥))
  pub in_order : (k : ℕ) → IsInOrder (node_cmp node) (numbers_in (lists k))

-- the rows are of nodes, in their order
pub record AreRowsOf (node : Nodes) (rows : List (TokenRow Spot)) : Type 0 where
  pub rows_are : rows ≡ map (row_in node) (numbers_in rows)
  pub live : (y : ℕ) → IsOn (numbers_in rows) y → IsSome (node y)
  pub in_order : IsInOrder (node_cmp node) (numbers_in rows)
