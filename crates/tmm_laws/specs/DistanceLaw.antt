-- The law of distances: the tightest distance of two points is exactly what the dates allow.
use Rattle.std.specs.Prelude.{◌≡◌, List, ◌∷◌, ◌++◌, [], length, ℤ, ◌-ℤ◌, ◌≤ℤ◌, ◌<ℤ◌}
use Rattle.std.specs.List.{Contains}
use Rattle.tmm_model.specs.declared.bound.Bound.{Bound}
use Rattle.tmm_model.specs.declared.bound.Bound.TheVariants.{Finite, Free}
use Rattle.tmm_model.specs.declared.point.PointName.{PointName}
use Rattle.tmm_model.specs.declared.point.PointName.TheVariants.{Start}
use Rattle.tmm_model.specs.declared.premise.Premise.{Premise}
use Rattle.tmm_model.specs.declared.walk.WalkStep.{WalkStep}
use Rattle.list_theory.specs.NegativeCycles.{IsNegativeCycle}
use Rattle.tmm_model.specs.Cycles.{IsCycleOf}
use Rattle.tmm_model.specs.Points.{same_point}
use Rattle.tmm_model.specs.Standing.{arcs_in, points_in, far_in, IsConsistent}
use Rattle.list_theory.specs.WellNamed.{IsWellNamed}
use Rattle.tmm_model.specs.Walks.{Arc, IsDates, HasDates, far}
use Rattle.walk_theory.specs.LeastWalks.{AreAmong}

-- A number is never exceeded by the date of b less that of a, and some dates reach it. Where there
-- is no bound, some dates exceed any number.
abbrev pub IsTightest : List (Arc PointName) → PointName → PointName → Bound → Type 0
IsTightest arcs a b (Finite x) =
    ((date : PointName → ℤ) → IsDates Start arcs date → (date b -ℤ date a) ≤ℤ x) × ((date : PointName → ℤ) × IsDates Start arcs date × ((date b -ℤ date a) ≡ x))
IsTightest arcs a b Free = (m : ℤ) → (date : PointName → ℤ) × IsDates Start arcs date × (m <ℤ (date b -ℤ date a))

-- where constraints among known points have dates, the distance of two of them is the tightest
-- bound
abbrev pub DistancesAreTightest : Type 0
DistancesAreTightest =
    (known : List PointName) (arcs : List (Arc PointName)) (a b : PointName) → AreAmong known arcs → HasDates Start arcs → Contains known b → IsTightest arcs a b (far same_point arcs (length known) a b)

-- The same over premises: where a well-named list has dates, the distance of two of its points is
-- the tightest bound.
abbrev pub ListDistancesAreTightest : Type 0
ListDistancesAreTightest =
    (premises : List Premise) (a b : PointName) → IsWellNamed premises → IsConsistent premises → Contains (points_in premises) b → IsTightest (arcs_in premises) a b (far_in premises a b)

-- where steps are a negative cycle, no dates satisfy the premises with the refused one
abbrev pub CyclesRefuse : Type 0
CyclesRefuse = (premises : List Premise) (refused : Premise) (steps : List WalkStep) → IsNegativeCycle premises refused steps → IsConsistent (premises ++ refused ∷ []) → ⊥

-- the cycle that is shown for a refused premise is a negative cycle
abbrev pub CyclesAreNegative : Type 0
CyclesAreNegative = (premises : List Premise) (refused : Premise) (sum : ℤ) (steps : List WalkStep) → IsCycleOf premises refused sum steps → IsNegativeCycle premises refused steps
