-- Nodes that stand after an edit as they did before it.
use Rattle.std.specs.Prelude.{◌≡◌, ℕ, List}
use Rattle.std.specs.List.{Contains}
use Rattle.dist_net.specs.Net.{Net}
use Rattle.spots.specs.Forest.{Forest, Member, IsLive}
use Rattle.spots.specs.Spots.{node_early}

-- The node y of g, which is m, stands as it did in f: it was there, its begin is none of the points
-- that moved, and its earliest date is what it was. Whether `start` is one of those points does not
-- matter, nor where a span ends.
pub record StandsAsBefore (before net : Net) (moved : List ℕ) (f g : Forest) (y : ℕ) (m : Member) : Type 0 where
  pub was : IsLive f y
  pub unmoved : Contains moved m.begin → ⊥
  pub date : node_early before f y ≡ node_early net g y
