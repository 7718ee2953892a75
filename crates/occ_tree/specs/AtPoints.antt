-- Nodes at declared points.
use Rattle.std.specs.Prelude.{◌≡◌, ◌⊎◌, ℕ, List, Option, Some, None, IfSome}
use Rattle.std.specs.List.{All, Contains}
use Rattle.tmm_model.specs.declared.point.PointName.{PointName}
use Rattle.tmm_model.specs.declared.point.PointName.TheVariants.{Start, Begin, End}
use Rattle.spots.specs.Forest.{Forest, Member, member, IsLive}
use Rattle.occ_tree.specs.Below.{IsBelow}

-- the node begins or ends at the point of this number
abbrev pub IsAt : ℕ → Member → Type 0
IsAt p m = (m.begin ≡ p) ⊎ (m.end ≡ Some p)

-- the name of the premise whose point it is, none for `start`
abbrev pub owner_of : PointName → Option (List ℕ)
owner_of Start = None
owner_of (Begin name) = Some name
owner_of (End name) = Some name

-- what begins or ends at the point is this node or below it; without one, nothing does
pub record IsRootAt (f : Forest) (p : ℕ) (root : Option ℕ) : Type 0 where
  pub live : IfSome root (IsLive f)
  pub above : (x : ℕ) (m : Member) → member f x ≡ Some m → IsAt p m → (r : ℕ) × (root ≡ Some r) × IsBelow f r x

-- these are nodes, and all that begin or end at these points are among them
pub record HaveNodesAt (f : Forest) (points nodes : List ℕ) : Type 0 where
  pub live : All (IsLive f) nodes
  pub all : (x : ℕ) (m : Member) (p : ℕ) → member f x ≡ Some m → Contains points p → IsAt p m → Contains nodes x
