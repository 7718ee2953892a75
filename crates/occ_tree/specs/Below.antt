-- What is below a node.
use Rattle.std.specs.Prelude.{◌≡◌, ℕ, ◌≤◌, ◌↔◌, List, [], ◌∷◌, ◌++◌, length, Some, IsSome}
use Rattle.row_links.specs.Lists.{IsOn, AreOnce}
use Rattle.undo_rows.specs.Tables.{Table, without_row}
use Rattle.spots.specs.Forest.{Forest, Member, IsBelow as IsMemberBelow}
use Rattle.occ_tree.specs.declared.node.Node.{Node}
use Rattle.occ_tree.specs.Nodes.{Nodes, parent_of, way_to}

-- node y is node x or below it
pub record IsBelow (f : Forest) (x y : ℕ) : Type 0 where
  pub above : Member
  pub below : Member
  pub above_at : f x ≡ Some above
  pub below_at : f y ≡ Some below
  pub is_below : IsMemberBelow above below

-- node y is right below node x
abbrev pub IsRightBelow : Nodes → ℕ → ℕ → Type 0
IsRightBelow node x y = (n : Node) × (node y ≡ Some n) × (parent_of n ≡ Some x)

-- node x stands on the way to node y, which may be x itself
abbrev pub IsOnWay : Nodes → ℕ → ℕ → Type 0
IsOnWay node x y = IsOn (way_to node y).numbers x

-- what is right below each of the first numbers stands behind it, among them or among the others
abbrev pub LeadOn : Nodes → List ℕ → List ℕ → Type 0
LeadOn node [] others = Unit {0}
LeadOn node (y ∷ first) others = ((z : ℕ) → IsRightBelow node y z → IsOn (first ++ others) z) × LeadOn node first others

-- the numbers are those of x and of all below it, each once, and each before those below it
pub record ListsBelow (node : Nodes) (x : ℕ) (numbers : List ℕ) : Type 0 where
  pub each : (y : ℕ) → IsOn numbers y ↔ IsOnWay node x y
  pub once : AreOnce numbers
  pub lead_on : LeadOn node numbers []
  pub few : length numbers ≤ 4294967295

-- these are nodes, each once, and none is below another
pub record AreTops (node : Nodes) (tops : List ℕ) : Type 0 where
  pub live : (x : ℕ) → IsOn tops x → IsSome (node x)
  pub once : AreOnce tops
  pub apart : (x y z : ℕ) → IsOn tops x → IsOn tops z → IsOnWay node x y → IsRightBelow node y z → ⊥

-- the numbers are those of the tops and of all below them, each once, and each before those below it
pub record ListAllBelow (node : Nodes) (tops numbers : List ℕ) : Type 0 where
  pub each : (y : ℕ) → IsOn numbers y ↔ ((x : ℕ) × IsOn tops x × IsOnWay node x y)
  pub once : AreOnce numbers
  pub lead_on : LeadOn node numbers []
  pub few : length numbers ≤ 4294967295

-- the table without the rows of these numbers
abbrev pub without_rows : List ℕ → Table Node 1 → Table Node 1
without_rows [] t = t
without_rows (x ∷ numbers) t = without_row (without_rows numbers t) x
