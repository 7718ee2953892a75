-- The laws of timings: the distance of two moments is exactly what timings allow, and the earliest
-- dates are the earliest timing.
use Rattle.std.specs.Prelude.{◌≡◌, ◌↔◌, ℤ, ◌-ℤ◌, ◌≤ℤ◌, ◌<ℤ◌, IsTrue, List}
use Rattle.std.specs.List.{All, Contains}
use Rattle.tmm_model.specs.declared.bound.Bound.{Bound}
use Rattle.tmm_model.specs.declared.bound.Bound.TheVariants.{Finite, Free}
use Rattle.tmm_model.specs.declared.point.PointName.TheVariants.{Start}
use Rattle.tmm_model.specs.Bounds.{IfFinite}
use Rattle.tmm_model.specs.Moments.{Moment, At, After, RuleText, base, rule_of, distance, early}
use Rattle.list_theory.specs.WellNamed.{IsSound}
use Rattle.tmm_model.specs.Standing.{Standing, arcs_in, points_in, far_in}
use Rattle.tmm_model.specs.Tokens.{is_by, is_before}
use Rattle.tmm_model.specs.Walks.{IsDates}

-- the effect of the rule may begin n after what brings it about
abbrev pub IsDelay : RuleText → ℤ → Type 0
IsDelay rule n = (rule.lo ≤ℤ n) × IfFinite rule.hi (λ hi. n ≤ℤ hi)

-- each rule on the way to a moment takes one of its delays
abbrev pub AreDelays : Standing → (Moment → ℤ) → Moment → Type 0
AreDelays s time (At p) = Unit {0}
AreDelays s time (After t r) = AreDelays s time t × IsDelay (rule_of s r) (time (After t r) -ℤ time t)

-- **A timing of the moments b**: dates of the declared points that satisfy every constraint, and
-- dates of all that rules bring about on the way to b, each a delay of its rule after what brings
-- it about.
pub record IsTiming (s : Standing) (b : List Moment) (time : Moment → ℤ) : Type 0 where
  pub dates : IsDates Start (arcs_in s.premises) (λ p. time (At p))
  pub delays : All (AreDelays s time) b

-- A number is never exceeded by the date of y less that of x, and some timing reaches it. Where
-- there is no bound, some timing exceeds any number.
abbrev pub IsTightestOf : Standing → List Moment → Moment → Moment → Bound → Type 0
IsTightestOf s b x y (Finite d) =
    ((time : Moment → ℤ) → IsTiming s b time → (time y -ℤ time x) ≤ℤ d) × ((time : Moment → ℤ) × IsTiming s b time × ((time y -ℤ time x) ≡ d))
IsTightestOf s b x y Free = (n : ℤ) → (time : Moment → ℤ) × IsTiming s b time × (n <ℤ (time y -ℤ time x))

-- **The distance of two moments is the tightest bound over all timings**, whatever moments are
-- timed beside the two.
abbrev pub TimingsAreTightest : Type 0
TimingsAreTightest = (s : Standing) → IsSound s → (b : List Moment) (x y : Moment) → Contains b x → Contains b y → IsTightestOf s b x y (distance s (far_in s.premises) x y)

-- "surely" says that it is so in every timing
pub record IsSureOf (s : Standing) (b : List Moment) (x y : Moment) : Type 0 where
  pub by : IsTrue (is_by (distance s (far_in s.premises)) x y) ↔ ((time : Moment → ℤ) → IsTiming s b time → time x ≤ℤ time y)
  pub before : IsTrue (is_before (distance s (far_in s.premises)) x y) ↔ ((time : Moment → ℤ) → IsTiming s b time → time x <ℤ time y)

-- **What is surely at or before, or surely before, is so in every timing**, and nothing else is.
abbrev pub SureInEveryTiming : Type 0
SureInEveryTiming = (s : Standing) → IsSound s → (b : List Moment) (x y : Moment) → Contains b x → Contains b y → IsSureOf s b x y

-- a timing of b that has each of b at or before its date in any other
pub record IsEarliest (s : Standing) (b : List Moment) (time : Moment → ℤ) : Type 0 where
  pub timing : IsTiming s b time
  pub least : (other : Moment → ℤ) → IsTiming s b other → All (λ x. time x ≤ℤ other x) b

-- **The earliest dates are a timing, and no timing has an earlier date**: of moments to which rules
-- lead from declared points.
abbrev pub EarlyDatesAreEarliest : Type 0
EarlyDatesAreEarliest = (s : Standing) → IsSound s → (b : List Moment) → All (λ x. Contains (points_in s.premises) (base x)) b → IsEarliest s b (early s (far_in s.premises))
