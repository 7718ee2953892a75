-- Where nodes are, and how far apart they were and are.
use Rattle.std.specs.Prelude.{◌≡◌, ℕ, ℤ, pos, negsuc, Bool, true, false}
use Rattle.tmm_model.specs.Bounds.{bound_at_most}
use Rattle.dist_net.specs.Net.{Net, Nets}
use Rattle.spots.specs.declared.spot.Spot.TheVariants.{Node}
use Rattle.spots.specs.Forest.{Forest}
use Rattle.spots.specs.Spots.{base_of, links_of, links_low, links_high, spot_distance}
use Rattle.bearing.specs.declared.places.Place.{Place}

-- the place of a node: the declared point from which rules lead to it, and the least and the most
-- time that they take
pub record IsPlaceOf (f : Forest) (x : ℕ) (place : Place) : Type 0 where
  pub base : base_of f (Node x) ≡ place.base
  pub low : links_low (links_of f (Node x)) ≡ place.low
  pub high : links_high (links_of f (Node x)) ≡ place.high

-- the network of the last commit, or as it is
abbrev pub net_at : Nets → Bool → Net
net_at nets true = nets.committed
net_at nets false = nets.present

-- what the date of one node less that of another is at most where the one is no later, or strictly
-- before
abbrev pub limit : Bool → ℤ
limit true = negsuc 0
limit false = pos 0

-- whether a node at the second place is at most so long after one at the first is what `is` says
abbrev pub TellsWithin : Net → Place → Place → ℤ → Bool → Type 0
TellsWithin net from to most is =
    (f : Forest) (a b : ℕ) → IsPlaceOf f a from → IsPlaceOf f b to → bound_at_most (spot_distance net f (Node a) (Node b)) most ≡ is
