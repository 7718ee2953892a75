-- What is told of a node.
use Rattle.std.specs.Prelude.{◌≡◌, ℕ, [], length, Some}
use Rattle.spots.specs.declared.node_row.NodeRow.{NodeRow}
use Rattle.spots.specs.Forest.{Forest, Member, member, IsParent, last_name}
use Rattle.spots.specs.Spots.{links_low, links_high}

-- the row tells what the occurrence is: what brings it about, its rules and delays, its points and
-- its fact
pub record IsRow (f : Forest) (m : Member) (row : NodeRow) : Type 0 where
  pub parent : IsParent f m row.parent
  pub name : row.name ≡ last_name m.root m.links
  pub root : (n : Member) × (member f row.root ≡ Some n) × (n.root ≡ m.root) × (n.links ≡ [])
  pub rules : row.rules ≡ length m.links
  pub low : row.low ≡ links_low m.links
  pub high : row.high ≡ links_high m.links
  pub begin : row.begin ≡ m.begin
  pub «end» : row.end ≡ m.end
  pub what : row.what ≡ m.what
  pub class : row.class ≡ m.class
  pub shape : row.shape ≡ m.shape

-- the row tells of the node of this number
abbrev pub IsRowOf : Forest → ℕ → NodeRow → Type 0
IsRowOf f x row = (m : Member) → member f x ≡ Some m → IsRow f m row
