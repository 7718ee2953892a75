-- Which distances are others now than at the last commit.
use Rattle.std.specs.Prelude.{◌≡◌, ◌⊎◌, ℕ, ◌<◌, ◌==◌, Bool, true, false, not, ◌&&◌, List, length, Option, Some, None, slice_index_or}
use Rattle.std.specs.Option.{option_map_or}
use Rattle.tmm_model.specs.declared.point.PointName.{PointName}
use Rattle.tmm_model.specs.declared.point.PointName.TheVariants.{Start, Begin, End}
use Rattle.tmm_model.specs.Points.{same_name}
use Rattle.belief_theory.specs.Touched.{same_bound}
use Rattle.dist_net.specs.Net.{Nets, IsInUse}
use Rattle.net_theory.specs.Represents.{Names}
use Rattle.spots.specs.Spots.{net_far}
use Rattle.bearing.specs.PointSets.{has_pair}

-- whether the point is one of the premise of this name, where there is one
abbrev pub is_of_premise : Option (List ℕ) → PointName → Bool
is_of_premise None point = false
is_of_premise (Some name) Start = false
is_of_premise (Some name) (Begin k) = same_name name k
is_of_premise (Some name) (End k) = same_name name k

-- whether the number is that of a point, and of none of the premise that is added
abbrev pub is_kept : Names → Option (List ℕ) → ℕ → Bool
is_kept names added n = option_map_or (λ point. not (is_of_premise added point)) (slice_index_or names n None) false

-- but for the points of the premise that is added, all were there at the last commit
abbrev pub WereThere : Nets → Option (List ℕ) → Type 0
WereThere nets added = (n : ℕ) → is_kept nets.present.names added n ≡ true → IsInUse nets.committed.names n

-- **Whether the distance from one point to another is another one now than at the last commit**,
-- where both are among these
abbrev pub is_moved_among : Nets → (ℕ → Bool) → ℕ → ℕ → Bool
is_moved_among nets among a b = not (a == b) && (among a && (among b && not (same_bound (net_far nets.committed a b) (net_far nets.present a b))))

-- whether it is where both were there
abbrev pub is_moved : Nets → Option (List ℕ) → ℕ → ℕ → Bool
is_moved nets added a b = is_moved_among nets (is_kept nets.present.names added) a b

-- of these pairs those that moved are put into the set, and no others
pub record PutsPairs (moved : ℕ → ℕ → Bool) (P : ℕ → ℕ → Type 0) (old new : List Bool) : Type 0 where
  pub own : (a b : ℕ) → a < 256 → b < 256 → has_pair new a b ≡ true → (has_pair old a b ≡ true) ⊎ (moved a b ≡ true)
  pub kept : (a b : ℕ) → a < 256 → b < 256 → has_pair old a b ≡ true → has_pair new a b ≡ true
  pub all : (a b : ℕ) → a < 256 → b < 256 → P a b → moved a b ≡ true → has_pair new a b ≡ true
  pub places : length new ≡ length old

-- the pairs are those that moved
pub record AreMoved (nets : Nets) (added : Option (List ℕ)) (pairs : List Bool) : Type 0 where
  pub each : (a b : ℕ) → a < 256 → b < 256 → has_pair pairs a b ≡ is_moved nets added a b
  pub places : length pairs ≡ 65536
