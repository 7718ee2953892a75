-- What edits do to nodes.
use Rattle.std.specs.Prelude.{◌≡◌, ◌≢◌, ℕ, ℤ, ◌+ℤ◌, List, [], ◌∷◌, ◌++◌, Option, None, Some, IfSome}
use Rattle.std.specs.Option.{option_map}
use Rattle.row_links.specs.Lists.{IsOn, without}
use Rattle.undo_rows.specs.Tables.{Table, with_new, without_row, with_value, new_row}
use Rattle.undo_rows.specs.Places.{PlacesGrow}
use Rattle.occ_tree.specs.declared.node.Node.{Node}
use Rattle.occ_tree.specs.Below.{IsBelow}
use Rattle.occ_tree.specs.Nodes.{parent_of}
use Rattle.occ_tree.specs.Standing.{Grove, nodes_in, present_rows, committed_rows, head_for, Kept, State, present, committed, forest, early, below}
use Rattle.spots.specs.Forest.{Member}

-- the nodes stay, those of the last commit too, and there are as many places
pub record Keeps (old new : Grove) : Type 0 where
  pub present_is : present_rows new ≡ present_rows old
  pub committed_is : committed_rows new ≡ committed_rows old
  pub places_are : new.rows.places ≡ old.rows.places

-- The node is new under a number that no node has or had at the last commit, and is last below its
-- parent. There is at most one more place, and only where each held a row.
pub record Adds (old new : Grove) (x : ℕ) (n : Node) : Type 0 where
  pub free : (present_rows old).row x ≡ None
  pub was_free : (committed_rows old).row x ≡ None
  pub present_is : present_rows new ≡ with_new (present_rows old) x (new_row (Some (head_for (parent_of n)) ∷ []) n)
  pub committed_is : committed_rows new ≡ committed_rows old
  pub places_grow : PlacesGrow old.rows new.rows

-- the node is gone, and all others stay in their order
pub record Takes (old new : Grove) (x : ℕ) : Type 0 where
  pub present_is : present_rows new ≡ without_row (present_rows old) x
  pub committed_is : committed_rows new ≡ committed_rows old
  pub places_are : new.rows.places ≡ old.rows.places

-- the node with the date that follows from this one of its root
abbrev pub dated : ℤ → Node → Node
dated date n = record n { early = date +ℤ n.sums.low }

-- the node has the date that follows from this one of its root
pub record Dates (old new : Grove) (x : ℕ) (date : ℤ) : Type 0 where
  pub node : Node
  pub at : nodes_in (present_rows old) x ≡ Some node
  pub present_is : present_rows new ≡ with_value (present_rows old) x (dated date node)
  pub committed_is : committed_rows new ≡ committed_rows old
  pub places_are : new.rows.places ≡ old.rows.places

-- these nodes have the dates that follow from those of their roots, given for each of them, and all
-- else stays
pub record AreDated (old new : Table Node 1) (numbers : List ℕ) (date : ℕ → ℤ) : Type 0 where
  pub on : (y : ℕ) → IsOn numbers y → nodes_in new y ≡ option_map (dated (date y)) (nodes_in old y)
  pub others : (y : ℕ) → (IsOn numbers y → ⊥) → nodes_in new y ≡ nodes_in old y
  pub lists : (h : ℕ) → new.list 0 h ≡ old.list 0 h

-- ---- of a tree

-- The node is new under a number that no node has. It is last below its parent, or among the roots,
-- and has this date. All else stays.
pub record Grows (old new : State) (x : ℕ) (m : Member) (parent : Option ℕ) (date : ℤ) : Type 0 where
  pub free : forest old x ≡ None
  pub entered : forest new x ≡ Some m
  pub others : (y : ℕ) → y ≢ x → forest new y ≡ forest old y
  pub last : below new parent ≡ below old parent ++ x ∷ []
  pub lists : (q : Option ℕ) → q ≢ parent → below new q ≡ below old q
  pub date_is : early new x ≡ date
  pub dates : (y : ℕ) → y ≢ x → early new y ≡ early old y

-- the node is new under a number that no node had at the last commit either, and the last commit
-- stays
pub record Enters (old new : Kept) (x : ℕ) (m : Member) (parent : Option ℕ) (date : ℤ) : Type 0 where
  pub grows : Grows (present old) (present new) x m parent date
  pub was_free : forest (committed old) x ≡ None
  pub committed_is : committed new ≡ committed old

-- Node x is gone with all below it. All else stays, with its dates and in its order.
pub record Shrinks (old new : State) (x : ℕ) : Type 0 where
  pub gone : (y : ℕ) → IsBelow (forest old) x y → forest new y ≡ None
  pub others : (y : ℕ) → (IsBelow (forest old) x y → ⊥) → forest new y ≡ forest old y
  pub dates : (y : ℕ) → (IsBelow (forest old) x y → ⊥) → early new y ≡ early old y
  pub lists : (parent : Option ℕ) → IfSome parent (λ p. IsBelow (forest old) x p → ⊥) → below new parent ≡ without x (below old parent)
  pub bare : (p : ℕ) → IsBelow (forest old) x p → below new (Some p) ≡ []

-- node x is gone with all below it, and the last commit stays
pub record Withdraws (old new : Kept) (x : ℕ) : Type 0 where
  pub shrinks : Shrinks (present old) (present new) x
  pub committed_is : committed new ≡ committed old

-- the tree stays, and so does the last commit
pub record Stays (old new : Kept) : Type 0 where
  pub present_is : present new ≡ present old
  pub committed_is : committed new ≡ committed old
