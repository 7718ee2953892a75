use Rattle.belief_theory.proofs.Timed.{timed}
use Rattle.tmm_laws.proofs.distances.points_time_occurrences.Goals as goal

pub returns : goal.returns
returns c = timed
