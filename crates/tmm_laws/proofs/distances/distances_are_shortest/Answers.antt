use Rattle.belief_theory.proofs.Timed.{distance_triangle}
use Rattle.tmm_laws.proofs.distances.distances_are_shortest.Goals as goal

pub returns : goal.returns
returns c = distance_triangle
