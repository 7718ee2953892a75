-- Closed walks of negative sum as certificates.
use Rattle.std.specs.Prelude.{◌≡◌, List, [], ◌∷◌, ◌++◌, ℤ, pos, ◌<ℤ◌}
use Rattle.std.specs.List.{All, Contains, IsDistinct}
use Rattle.tmm_model.specs.declared.bound.Bound.TheVariants.{Finite}
use Rattle.tmm_model.specs.declared.point.PointName.{PointName}
use Rattle.tmm_model.specs.declared.premise.Premise.{Premise}
use Rattle.tmm_model.specs.declared.walk.WalkStep.{WalkStep}
use Rattle.tmm_model.specs.Bounds.{after}
use Rattle.tmm_model.specs.Points.{same_point}
use Rattle.tmm_model.specs.Standing.{far_in, arcs_of}
use Rattle.tmm_model.specs.Walks.{Arc}
use Rattle.tmm_model.specs.Cycles.{steps_in, Leads, sum_of, begins}

-- **A negative cycle** of the premises and a refused one: their constraints lead from a point back
-- to it, no point is visited twice, and the sum is negative.
pub record IsNegativeCycle (premises : List Premise) (refused : Premise) (steps : List WalkStep) : Type 0 where
  pub own : All (Contains (steps_in (premises ++ refused ∷ []))) steps
  pub closed : (p : PointName) × Leads p p steps
  pub distinct : IsDistinct same_point (begins steps)
  pub negative : sum_of steps <ℤ pos 0

-- The sum of a closed walk that a refused premise makes: the weight of one of its constraints and
-- the tightest distance back. It is negative.
pub record IsCycleSum (premises : List Premise) (refused : Premise) (sum : ℤ) : Type 0 where
  pub first : Arc PointName
  pub own : Contains (arcs_of refused) first
  pub sums : after first.weight (far_in premises first.to first.from) ≡ Finite sum
  pub negative : sum <ℤ pos 0
