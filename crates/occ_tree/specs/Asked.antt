-- What is asked of spots.
use Rattle.std.specs.Prelude.{◌≡◌, Some}
use Rattle.spots.specs.declared.spot.Spot.{Spot}
use Rattle.spots.specs.declared.spot.Spot.TheVariants.{Declared, Node as OfNode}
use Rattle.spots.specs.Forest.{Forest, Member, IsLive}

-- the spot is a declared point or a node
abbrev pub IsThere : Forest → Spot → Type 0
IsThere f (Declared p) = Unit {0}
IsThere f (OfNode x) = IsLive f x

-- where both spots are nodes, they are of one root
abbrev pub AreOfOneRoot : Forest → Spot → Spot → Type 0
AreOfOneRoot f (Declared p) q = Unit {0}
AreOfOneRoot f (OfNode x) (Declared q) = Unit {0}
AreOfOneRoot f (OfNode x) (OfNode y) = (m n : Member) → f x ≡ Some m → f y ≡ Some n → m.root ≡ n.root
