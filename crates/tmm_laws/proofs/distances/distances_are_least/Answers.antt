use Rattle.belief_theory.proofs.Sound.{far_in-IsFar}
use Rattle.tmm_laws.proofs.distances.distances_are_least.Goals as goal

pub returns : goal.returns
returns c = far_in-IsFar
