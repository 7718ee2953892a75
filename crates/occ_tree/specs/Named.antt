-- Nodes by their names.
use Rattle.std.specs.Prelude.{◌≡◌, ℕ, List, Option, Some}
use Rattle.occ_tree.specs.declared.node.Node.{Node}
use Rattle.occ_tree.specs.Nodes.{Nodes, parent_of}

-- the node has this name, and this parent; without one, it is a root
abbrev pub IsNamed : Nodes → Option ℕ → List ℕ → ℕ → Type 0
IsNamed node parent name x = (n : Node) × (node x ≡ Some n) × (parent_of n ≡ parent) × (n.name ≡ name)
