-- Which decisions need not be made again though points moved: where what moved of the tokens that
-- they read bears on none there, before and after.
use Rattle.std.specs.Prelude.{◌≡◌, ◌≢◌, ◌⊎◌, ℕ, ℤ, Bool, true, false, List, Some, None}
use Rattle.std.specs.List.{Contains}
use Rattle.tmm_model.specs.declared.bound.Bound.TheVariants.{Finite}
use Rattle.tmm_model.specs.declared.premise.Edit.{Edit}
use Rattle.tmm_model.specs.Beliefs.{rules_at}
use Rattle.tmm_model.specs.Edits.{next_list}
use Rattle.tmm_model.specs.Moments.{Moment}
use Rattle.tmm_model.specs.Standing.{Standing, points_in, far_in}
use Rattle.tmm_model.specs.Tokens.{is_by, is_before}
use Rattle.belief_theory.specs.Outcomes.{outcome}
use Rattle.dist_net.specs.Net.{Net, Nets}
use Rattle.net_theory.specs.Fits.{IsNetOf}
use Rattle.net_theory.specs.KeptNumbers.{PointsKeepNumbers}
use Rattle.spots.specs.declared.spot.Spot.{Spot}
use Rattle.spots.specs.declared.spot.Spot.TheVariants.{Declared, Node}
use Rattle.spots.specs.Forest.{Forest, Member, member, IsLive, moment_at}
use Rattle.spots.specs.OfLists.{IsForestOf, HasOccurrences}
use Rattle.spots.specs.Spots.{spot_distance, base_of, links_of, links_high}
use Rattle.revisions.specs.Maps.{watches}
use Rattle.revisions.specs.Walls.{AllOccur}
use Rattle.joined.specs.Gaps.{reads_class, ReadsNoRival, IsClassSpot, TellsMoves}

-- ---- what moved, as far as a class goes

-- the spot is `start`, or the begin or the end of a token of this class
abbrev pub IsSpotOf : Forest → List ℕ → Spot → Type 0
IsSpotOf f class p = (p ≡ Declared 0) ⊎ IsClassSpot f class p

-- Points moved among these spots and the event of node x. The distance to a spot matters only where
-- rules lead to it in bounded time.
pub record MovesAmong (moves : ℕ → ℕ → Bool) (f : Forest) (are : Spot → Type 0) (x : ℕ) : Type 0 where
  pub from : Spot
  pub to : Spot
  pub from_is : are from ⊎ (from ≡ Node x)
  pub to_is : are to ⊎ (to ≡ Node x)
  pub most : ℤ
  pub bounded : links_high (links_of f to) ≡ Finite most
  pub moved : moves (base_of f from) (base_of f to) ≡ true

-- ---- what moved, and is spared

-- of two points of which the distance is another one now, one is loose, and `start` is not
pub record AreLoose (moves : ℕ → ℕ → Bool) (loose : ℕ → Bool) : Type 0 where
  pub each : (a b : ℕ) → moves a b ≡ true → (loose a ≡ true) ⊎ (loose b ≡ true)
  pub start : loose 0 ≡ false

-- neither the begin of the node nor its end is loose
pub record IsFast (loose : ℕ → Bool) (m : Member) : Type 0 where
  pub begin : loose m.begin ≡ false
  pub «end» : (e : ℕ) → m.end ≡ Some e → loose e ≡ false

-- node v is m, a fast token of the class, which has surely begun after node y, and by the event of
-- node x
pub record IsWallAt (net : Net) (f : Forest) (loose : ℕ → Bool) (class : List ℕ) (x y v : ℕ) (m : Member) : Type 0 where
  pub here : member f v ≡ Some m
  pub of : m.class ≡ Some class
  pub fast : IsFast loose m
  pub after : is_before (spot_distance net f) (Node y) (Node v) ≡ true
  pub begun : is_by (spot_distance net f) (Node v) (Node x) ≡ true

-- between node y and the event of node x there are two walls, of different facts
pub record IsWalled (net : Net) (f : Forest) (loose : ℕ → Bool) (class : List ℕ) (x y : ℕ) : Type 0 where
  pub one : ℕ
  pub other : ℕ
  pub first : Member
  pub second : Member
  pub first_is : IsWallAt net f loose class x y one first
  pub second_is : IsWallAt net f loose class x y other second
  pub differ : first.what ≢ second.what

-- the token at node y, which is m, has not surely begun by the event of node x, or it is no span
-- and stands behind walls
abbrev pub IsSparedAt : Net → Forest → (ℕ → Bool) → List ℕ → ℕ → ℕ → Member → Type 0
IsSparedAt net f loose class x y m = (is_by (spot_distance net f) (Node y) (Node x) ≡ false) ⊎ ((m.end ≡ None) × IsWalled net f loose class x y)

-- the event of node x is not loose, and each token of the class is fast, or spared there before and
-- after
pub record SparesClass (nets : Nets) (f : Forest) (loose : ℕ → Bool) (class : List ℕ) (x : ℕ) : Type 0 where
  pub event : loose (base_of f (Node x)) ≡ false
  pub each : (y : ℕ) (m : Member) → member f y ≡ Some m → m.class ≡ Some class
      → IsFast loose m ⊎ (IsSparedAt nets.committed f loose class x y m × IsSparedAt nets.present f loose class x y m)

-- The decision of the rule at the event of node x may rest: no premise says that a fact contradicts
-- one that it reads, the event keeps its date, and of each class that the rule reads no points
-- moved on which the decision depends, or what moved is spared.
pub record MayRest (moves : ℕ → ℕ → Bool) (loose : ℕ → Bool) (s : Standing) (nets : Nets) (f : Forest) (r : List ℕ) (x : ℕ) : Type 0 where
  pub plain : ReadsNoRival s r
  pub date : moves (base_of f (Node x)) 0 ≡ false
  pub each : (class : List ℕ) → reads_class s r class ≡ true → (MovesAmong moves f (IsSpotOf f class) x → ⊥) ⊎ SparesClass nets f loose class x

-- **Then it keeps its outcome**, if the decision was there, the horizon is the same, no premise
-- said that a fact contradicts one that it reads, and no token that it watches left or entered.
abbrev pub RestingKeep : Type 0
RestingKeep =
    (old : Standing) (edit : Edit) (nets : Nets) (moves : ℕ → ℕ → Bool) (loose : ℕ → Bool) (f : Forest) (before b : List Moment) (r : List ℕ) (x : ℕ)
    → IsNetOf old nets.committed → IsForestOf (next_list old edit) nets.present f
    → PointsKeepNumbers (points_in (next_list old edit).premises) nets.committed.names nets.present.names
    → TellsMoves nets moves → AreLoose moves loose → AllOccur old before → HasOccurrences b f → IsLive f x
    → Contains before (moment_at f x) → Contains (rules_at old (moment_at f x)) r → Contains (rules_at (next_list old edit) (moment_at f x)) r
    → old.horizon ≡ (next_list old edit).horizon → ReadsNoRival old r
    → ((y : Moment) → Contains before y → watches old r y ≡ true → Contains b y)
    → ((y : Moment) → Contains b y → watches (next_list old edit) r y ≡ true → Contains before y)
    → MayRest moves loose (next_list old edit) nets f r x
    → outcome old (far_in old.premises) before (moment_at f x) r ≡ outcome (next_list old edit) (far_in (next_list old edit).premises) b (moment_at f x) r
