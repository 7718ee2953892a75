-- The declared points of spots.
use Rattle.std.specs.Prelude.{◌≡◌, ℕ, ℤ, ◌<◌, Bool, false, List, length, Some}
use Rattle.tmm_model.specs.declared.bound.Bound.TheVariants.{Finite}
use Rattle.spots.specs.declared.spot.Spot.{Spot}
use Rattle.spots.specs.declared.spot.Spot.TheVariants.{Declared, Node}
use Rattle.spots.specs.Forest.{Forest, Member, member, IsLive}
use Rattle.spots.specs.Spots.{base_of, links_of, links_high}
use Rattle.bearing.specs.declared.points_of_class.Reach.{Reach}
use Rattle.bearing.specs.PointSets.{is_in, PutsIn}

-- the number is that of the declared point of one of these spots
abbrev pub IsBaseOf : Forest → (Spot → Type 0) → ℕ → Type 0
IsBaseOf f S p = (s : Spot) × S s × (base_of f s ≡ p)

-- so it is, and rules lead from the point to the spot in bounded time
abbrev pub IsBoundedBaseOf : Forest → (Spot → Type 0) → ℕ → Type 0
IsBoundedBaseOf f S p = (s : Spot) × S s × (base_of f s ≡ p) × (most : ℤ) × (links_high (links_of f s) ≡ Finite most)

-- the points of these spots are put in, and no others
pub record Notes (f : Forest) (S : Spot → Type 0) (old new : Reach) : Type 0 where
  pub all : PutsIn (IsBaseOf f S) old.all.items new.all.items
  pub bounded : PutsIn (IsBoundedBaseOf f S) old.bounded.items new.bounded.items

-- there is a place for each number below 256
pub record HasPlaces (r : Reach) : Type 0 where
  pub all : length r.all.items ≡ 256
  pub bounded : length r.bounded.items ≡ 256

-- the numbers of the points of all nodes are below 256
pub record AreBelow256 (f : Forest) : Type 0 where
  pub begin : (x : ℕ) (m : Member) → member f x ≡ Some m → m.begin < 256
  pub «end» : (x : ℕ) (m : Member) (e : ℕ) → member f x ≡ Some m → m.end ≡ Some e → e < 256

-- the spot is a node, or a declared point with a number below 256
abbrev pub IsSpotBelow256 : Forest → Spot → Type 0
IsSpotBelow256 f (Declared p) = p < 256
IsSpotBelow256 f (Node x) = IsLive f x

-- the spot is a node, or a declared point
abbrev pub IsDeclaredOrLive : Forest → Spot → Type 0
IsDeclaredOrLive f (Declared p) = Unit {0}
IsDeclaredOrLive f (Node x) = IsLive f x

-- the declared point of the spot is none of the set
abbrev pub IsOff : Forest → List Bool → Spot → Type 0
IsOff f points p = is_in points (base_of f p) ≡ false
