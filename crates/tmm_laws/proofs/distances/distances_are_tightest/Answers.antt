use Rattle.std.proofs.Common.{List, length, arith}
use Rattle.std.specs.List.{Contains}
use Rattle.tmm_model.specs.declared.bound.Bound.{Bound}
use Rattle.tmm_model.specs.declared.bound.Bound.TheVariants.{Finite, Free}
use Rattle.tmm_model.specs.declared.point.PointName.{PointName}
use Rattle.tmm_model.specs.declared.point.PointName.TheVariants.{Start}
use Rattle.tmm_model.specs.Points.{same_point}
use Rattle.tmm_model.specs.Standing.{arcs_in, points_in}
use Rattle.tmm_model.specs.Walks.{Arc, HasDates, far}
use Rattle.walk_theory.specs.LeastWalks.{AreAmong, IsFar}
use Rattle.list_theory.proofs.KnownNames.{arcs_among}
use Rattle.walk_theory.proofs.Paths.{IsFar-far}
use Rattle.walk_theory.proofs.Points.{Decides-same_point}
use Rattle.walk_theory.proofs.Reach.{difference-le_far, dates_reach, dates_pass}
use Rattle.tmm_laws.specs.DistanceLaw.{IsTightest}
use Rattle.tmm_laws.proofs.distances.distances_are_tightest.Goals as goal

tightest : (arcs : List (Arc PointName)) (a b : PointName) → HasDates Start arcs → (x : Bound) → IsFar arcs a b x → IsTightest arcs a b x
tightest arcs a b dates (Finite x) far = (difference-le_far Start arcs a b x far, dates_reach same_point Decides-same_point Start arcs dates a b x far)
tightest arcs a b dates Free far = dates_pass same_point Decides-same_point Start arcs dates a b far

all_tightest : (known : List PointName) (arcs : List (Arc PointName)) (a b : PointName) → AreAmong known arcs → HasDates Start arcs → Contains known b → IsTightest arcs a b (far same_point arcs (length known) a b)
all_tightest known arcs a b among dates in_b =
    tightest arcs a b dates (far same_point arcs (length known) a b) (IsFar-far same_point Decides-same_point Start known (length known) (omega arith) arcs among dates a b in_b)

pub returns : goal.returns
returns c = record {
  of_constraints = all_tightest;
  of_premises = λ premises a b named dates in_b. all_tightest (points_in premises) (arcs_in premises) a b (arcs_among premises named) dates in_b;
}
