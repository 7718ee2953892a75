-- Walks that give a distance, as replies show them.
use Rattle.std.specs.Prelude.{◌≡◌, List, []}
use Rattle.tmm_model.specs.declared.bound.Bound.{Bound}
use Rattle.tmm_model.specs.declared.bound.Bound.TheVariants.{Finite, Free}
use Rattle.tmm_model.specs.declared.point.PointName.{PointName}
use Rattle.tmm_model.specs.declared.walk.WalkStep.{WalkStep}
use Rattle.tmm_model.specs.Cycles.{steps_in, sum_of, IsPath}
use Rattle.tmm_model.specs.Maps.{TimeMap, gap}
use Rattle.tmm_model.specs.Moments.{Moment, base}

-- The steps are constraints of standing premises, lead from a to b and visit no point twice, and no
-- walk from a to b has a lesser sum. From a point to itself that is the walk without a step.
pub record IsLeastWalk (m : TimeMap) (a b : PointName) (steps : List WalkStep) : Type 0 where
  pub path : IsPath (steps_in m.list.premises) a b steps
  pub least : m.far a b ≡ Finite (sum_of steps)

-- a least walk between the declared points where there is a bound, and no step where there is none
abbrev pub WalksIf : TimeMap → Moment → Moment → Bound → List WalkStep → Type 0
WalksIf m x y Free steps = steps ≡ []
WalksIf m x y (Finite d) steps = IsLeastWalk m (base x) (base y) steps

-- **What a `path` is answered**: the upper bound on the distance and, where there is one, a least
-- walk between the declared points of the two moments. Rules have no steps, so the sum of the steps
-- may be another.
pub record GivesPath (m : TimeMap) (x y : Moment) (far : Bound) (steps : List WalkStep) : Type 0 where
  pub bound : far ≡ gap m x y
  pub walk : WalksIf m x y far steps
