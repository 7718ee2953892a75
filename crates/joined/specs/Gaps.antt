-- Which decisions are touched since points moved.
use Rattle.std.specs.Prelude.{◌≡◌, ◌≢◌, ◌⊎◌, ℕ, ℤ, Bool, true, false, List, Some}
use Rattle.std.specs.List.{Contains, list_any}
use Rattle.tmm_model.specs.declared.bound.Bound.TheVariants.{Finite}
use Rattle.tmm_model.specs.declared.point.PointName.{PointName}
use Rattle.tmm_model.specs.declared.premise.Edit.{Edit}
use Rattle.tmm_model.specs.Beliefs.{class_of, are_rivals}
use Rattle.tmm_model.specs.Edits.{next_list}
use Rattle.tmm_model.specs.Maps.{built, gap}
use Rattle.tmm_model.specs.Moments.{Moment, read_by, rule_of}
use Rattle.tmm_model.specs.Points.{same_name}
use Rattle.tmm_model.specs.Standing.{Standing, points_in}
use Rattle.list_theory.proofs.Elements.{In}
use Rattle.belief_theory.specs.Touched.{watched_points}
use Rattle.dist_net.specs.Net.{Nets}
use Rattle.net_theory.specs.Fits.{IsNetOf}
use Rattle.net_theory.specs.KeptNumbers.{PointsKeepNumbers}
use Rattle.net_theory.specs.Represents.{IsNumberOf}
use Rattle.spots.specs.declared.spot.Spot.{Spot}
use Rattle.spots.specs.declared.spot.Spot.TheVariants.{Declared, Node}
use Rattle.spots.specs.Forest.{Forest, Member, member, IsLive, moment_at}
use Rattle.spots.specs.OfLists.{IsForestOf, HasOccurrences, map_of}
use Rattle.spots.specs.Spots.{net_far, base_of, links_of, links_high}
use Rattle.revisions.specs.Maps.{watches}

-- the points on which the decision of r at t depends are as far apart as they were
abbrev pub SameGaps : Standing → Standing → List Moment → Moment → List ℕ → Type 0
SameGaps old new b t r = (p q : Moment) → In p (watched_points (map_of new b) t r) → In q (watched_points (map_of new b) t r) → gap (built old) p q ≡ gap (map_of new b) p q

-- whether the rule reads a fact of this class
abbrev pub reads_class : Standing → List ℕ → List ℕ → Bool
reads_class s r class = list_any (λ fact. same_name (class_of s fact) class) (read_by (rule_of s r))

-- whether it reads a fact of which a premise says that this one contradicts it
abbrev pub reads_rival : Standing → List ℕ → List ℕ → Bool
reads_rival s r fact = list_any (λ f. are_rivals s f fact) (read_by (rule_of s r))

-- it reads none that a fact contradicts, as a premise says
abbrev pub ReadsNoRival : Standing → List ℕ → Type 0
ReadsNoRival s r = (fact : List ℕ) → reads_rival s r fact ≡ false

-- the spot is the begin or the end of a token of this class
pub data IsClassSpot (f : Forest) (class : List ℕ) (p : Spot) : Type 0 where
  begin : (y : ℕ) (m : Member) → member f y ≡ Some m → m.class ≡ Some class → p ≡ Node y → IsClassSpot f class p
  an_end : (y : ℕ) (m : Member) (e : ℕ) → member f y ≡ Some m → m.class ≡ Some class → m.end ≡ Some e → p ≡ Declared e → IsClassSpot f class p

-- the spot is the begin or the end of a token of this fact
pub record IsFactSpot (f : Forest) (fact : List ℕ) (p : Spot) : Type 0 where
  pub number : ℕ
  pub node : Member
  pub class : List ℕ
  pub here : member f number ≡ Some node
  pub of : node.class ≡ Some class
  pub fact_is : node.what ≡ fact
  pub is : (p ≡ Node number) ⊎ ((e : ℕ) × (node.end ≡ Some e) × (p ≡ Declared e))

-- the spot is `start`, or the begin or the end of a token that the rule watches: one of a class
-- that it reads, or of a fact that contradicts one that it reads
pub data IsReadSpot (s : Standing) (f : Forest) (r : List ℕ) (p : Spot) : Type 0 where
  start : p ≡ Declared 0 → IsReadSpot s f r p
  read : (class : List ℕ) → reads_class s r class ≡ true → IsClassSpot f class p → IsReadSpot s f r p
  rival : (fact : List ℕ) → reads_rival s r fact ≡ true → IsFactSpot f fact p → IsReadSpot s f r p

-- on the distances of these spots the decision of the rule at the event of node x depends
abbrev pub IsSpotAt : Standing → Forest → List ℕ → ℕ → Spot → Type 0
IsSpotAt s f r x p = IsReadSpot s f r p ⊎ (p ≡ Node x)

-- of two numbers that are of the same two points in both nets, whether the distance from one to the
-- other is another one now
pub record TellsMoves (nets : Nets) (moves : ℕ → ℕ → Bool) : Type 0 where
  pub itself : (a : ℕ) → moves a a ≡ false
  pub apart : (a b : ℕ) (p q : PointName) → IsNumberOf nets.committed.names a p → IsNumberOf nets.present.names a p → IsNumberOf nets.committed.names b q → IsNumberOf nets.present.names b q
      → moves a b ≡ true → net_far nets.committed a b ≢ net_far nets.present a b
  pub same : (a b : ℕ) (p q : PointName) → IsNumberOf nets.committed.names a p → IsNumberOf nets.present.names a p → IsNumberOf nets.committed.names b q → IsNumberOf nets.present.names b q
      → a ≢ b → moves a b ≡ false → net_far nets.committed a b ≡ net_far nets.present a b

-- Points moved on which the decision of the rule at the event of node x depends. The distance to a
-- spot matters only where rules lead to it in bounded time: if not, there is none before and after.
pub record MovesAt (moves : ℕ → ℕ → Bool) (s : Standing) (f : Forest) (r : List ℕ) (x : ℕ) : Type 0 where
  pub from : Spot
  pub to : Spot
  pub from_is : IsSpotAt s f r x from
  pub to_is : IsSpotAt s f r x to
  pub most : ℤ
  pub bounded : links_high (links_of f to) ≡ Finite most
  pub moved : moves (base_of f from) (base_of f to) ≡ true

-- **The points on which a decision depends are as far apart as they were exactly where no declared
-- points moved** from which rules lead to them: an event that was believed and tokens that were
-- believed are as far from their declared points as they were.
abbrev pub MovedPointsTouch : Type 0
MovedPointsTouch =
    (old : Standing) (edit : Edit) (nets : Nets) (moves : ℕ → ℕ → Bool) (f : Forest) (b : List Moment) (r : List ℕ) (x : ℕ)
    → IsNetOf old nets.committed → IsForestOf (next_list old edit) nets.present f
    → PointsKeepNumbers (points_in (next_list old edit).premises) nets.committed.names nets.present.names
    → TellsMoves nets moves → HasOccurrences b f → IsLive f x
    → Contains (built old).believed (moment_at f x)
    → ((y : Moment) → Contains b y → watches (next_list old edit) r y ≡ true → Contains (built old).believed y)
    → (SameGaps old (next_list old edit) b (moment_at f x) r → MovesAt moves (next_list old edit) f r x → ⊥)
    × ((MovesAt moves (next_list old edit) f r x → ⊥) → SameGaps old (next_list old edit) b (moment_at f x) r)
