use Rattle.tmm_model.specs.declared.point.PointName.TheVariants.{Start}
use Rattle.tmm_model.specs.Points.{same_point}
use Rattle.walk_theory.proofs.Dates.{dates-iff_no_cycle, dates_or_cycle}
use Rattle.walk_theory.proofs.Points.{Decides-same_point}
use Rattle.tmm_laws.proofs.distances.dates_exactly_without_negative_cycle.Goals as goal

pub returns : goal.returns
returns c = record {
  exactly = dates-iff_no_cycle same_point Decides-same_point Start;
  either = dates_or_cycle same_point Decides-same_point Start;
}
