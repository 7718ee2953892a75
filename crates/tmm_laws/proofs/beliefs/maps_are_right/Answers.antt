use Rattle.belief_theory.proofs.SoundBeliefs.{map_is_right}
use Rattle.tmm_laws.proofs.beliefs.maps_are_right.Goals as goal

pub returns : goal.returns
returns c = map_is_right
