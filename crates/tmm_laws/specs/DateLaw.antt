-- The law of dates: constraints between declared points have dates exactly where no closed walk has
-- a negative sum.
use Rattle.std.specs.Prelude.{◌↔◌, ◌⊎◌, List}
use Rattle.tmm_model.specs.declared.point.PointName.{PointName}
use Rattle.tmm_model.specs.declared.point.PointName.TheVariants.{Start}
use Rattle.tmm_model.specs.Walks.{Arc, HasDates}
use Rattle.walk_theory.specs.LeastWalks.{HasNegativeCycle}

-- some dates satisfy every constraint exactly where no closed walk has a negative sum
abbrev pub DatesExactlyWithoutNegativeCycle : Type 0
DatesExactlyWithoutNegativeCycle = (arcs : List (Arc PointName)) → HasDates Start arcs ↔ (HasNegativeCycle arcs → ⊥)

-- each list of constraints has dates or a closed walk of negative sum
abbrev pub DatesOrNegativeCycle : Type 0
DatesOrNegativeCycle = (arcs : List (Arc PointName)) → HasDates Start arcs ⊎ HasNegativeCycle arcs
