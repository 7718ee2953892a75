-- Nodes under their parents and names.
use Rattle.std.specs.Prelude.{◌≡◌, ℕ, Bool, ◌&&◌, List, Option, Some, nat_eq}
use Rattle.std.specs.Map.{lookup}
use Rattle.std.specs.Option.{option_eq}
use Rattle.tmm_model.specs.Points.{same_name}
use Rattle.occ_tree.specs.declared.by_name.Key.{Key}
use Rattle.occ_tree.specs.declared.node.Node.{Node}
use Rattle.occ_tree.specs.Named.{IsNamed}
use Rattle.occ_tree.specs.Nodes.{Nodes, parent_of}

-- under what a node is found
abbrev pub key_of : Node → Key
key_of n = record { parent = parent_of n; name = n.name }

-- whether two keys are the same
abbrev pub same_key : Key → Key → Bool
same_key a b = option_eq nat_eq a.parent b.parent && same_name a.name b.name

-- the number under a key, none where none is
abbrev pub number_under : List (Key × ℕ) → Key → Option ℕ
number_under entries k = lookup (same_key k) entries

-- under the key of each node is its number, and under each key the number of a node of that key
pub record IsIndex (node : Nodes) (entries : List (Key × ℕ)) : Type 0 where
  pub all : (x : ℕ) (n : Node) → node x ≡ Some n → number_under entries (key_of n) ≡ Some x
  pub each : (k : Key) (x : ℕ) → number_under entries k ≡ Some x → IsNamed node k.parent k.name x
