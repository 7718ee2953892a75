use Rattle.belief_theory.proofs.SoundBeliefs.{earlier, cited_before}
use Rattle.tmm_laws.proofs.beliefs.reasons_are_earlier.Goals as goal

pub returns : goal.returns
returns c = record { earlier = earlier; order = cited_before }
