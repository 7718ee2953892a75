-- The laws of distances, of belief and of reasons.
use Rattle.std.specs.Prelude.{◌≡◌, ◌↔◌, ℕ, List, ◌<ℤ◌, ◌∷◌, ◌++◌}
use Rattle.std.specs.List.{Contains}
use Rattle.tmm_model.specs.Beliefs.{rules_at, beliefs}
use Rattle.belief_theory.specs.Outcomes.{outcome, fires}
use Rattle.tmm_model.specs.Types.{IsTighter}
use Rattle.tmm_model.specs.Bounds.{bound_plus}
use Rattle.tmm_model.specs.Maps.{built}
use Rattle.tmm_model.specs.Moments.{Moment, After, Distances, distance, early}
use Rattle.tmm_model.specs.declared.point.PointName.{PointName}
use Rattle.tmm_model.specs.Standing.{Standing, arcs_in, far_in}
use Rattle.walk_theory.specs.LeastWalks.{IsFar}
use Rattle.list_theory.specs.WellNamed.{IsSound}
use Rattle.belief_theory.specs.Right.{IsRight, IsQuasiMetric, HasSoundRules, IsTimed}
use Rattle.tmm_model.specs.Reasons.{Reason, rests_on, IsWhy}

-- the distances of a sound list are shortest, and its rules are sound
abbrev pub SoundListsAreShortest : Type 0
SoundListsAreShortest = (s : Standing) → IsSound s → IsQuasiMetric s (far_in s.premises) × HasSoundRules s

-- and each is the least sum over all walks of its constraints, none exactly where there is no walk
abbrev pub DistancesAreLeast : Type 0
DistancesAreLeast = (s : Standing) → IsSound s → (p q : PointName) → IsFar (arcs_in s.premises) p q (far_in s.premises p q)

-- then occurrences have earliest dates as rules say
abbrev pub PointsTimeOccurrences : Type 0
PointsTimeOccurrences = (s : Standing) (far : Distances) → IsQuasiMetric s far → HasSoundRules s → IsTimed s far

-- and distances of any moments obey the triangle law
abbrev pub DistancesAreShortest : Type 0
DistancesAreShortest =
    (s : Standing) (far : Distances) → IsQuasiMetric s far → HasSoundRules s
    → (x y z : Moment) → IsTighter (distance s far x z) (bound_plus (distance s far x y) (distance s far y z))

-- two right sets have the same members
abbrev pub OneRightSet : Type 0
OneRightSet =
    (s : Standing) (far : Distances) → IsTimed s far
    → (b c : List Moment) → IsRight s far b → IsRight s far c
    → (x : Moment) → Contains b x ↔ Contains c x

-- the believed occurrences are right
abbrev pub BeliefsAreRight : Type 0
BeliefsAreRight = (s : Standing) (far : Distances) → IsTimed s far → IsRight s far (beliefs s far)

-- **The map of a sound list believes the one right set.**
abbrev pub MapsAreRight : Type 0
MapsAreRight =
    (s : Standing) → IsSound s
    → IsRight s (far_in s.premises) (built s).believed
    × ((b : List Moment) → IsRight s (far_in s.premises) b → (x : Moment) → Contains b x ↔ Contains (built s).believed x)

-- and a decision of its map fires exactly where the effect is believed
abbrev pub FiresWhereBelieved : Type 0
FiresWhereBelieved =
    (s : Standing) → IsSound s → (t : Moment) (r : List ℕ) → Contains (built s).believed t → Contains (rules_at s t) r
    → ((ks : List Moment) × (outcome s (far_in s.premises) (built s).believed t r ≡ fires ks)) ↔ Contains (built s).believed (After t r)

-- in the map of a sound list, what a believed occurrence rests on is believed, and has an earlier
-- date
abbrev pub ReasonsAreEarlier : Type 0
ReasonsAreEarlier =
    (s : Standing) → IsSound s → (o x : Moment)
    → Contains (built s).believed o → Contains (rests_on (built s) o) x
    → Contains (built s).believed x × (early s (far_in s.premises) x <ℤ early s (far_in s.premises) o)

-- and in its reasons, each occurrence that the line of another cites stands before that one
abbrev pub CitedStandBefore : Type 0
CitedStandBefore =
    (s : Standing) → IsSound s → (o : Moment) (lines : List Reason) → Contains (built s).believed o → (why : IsWhy (built s) o lines)
    → (front back : List Moment) (y : Moment) → why.occs ≡ front ++ y ∷ back
    → (x : Moment) → Contains (rests_on (built s) y) x → Contains front x
