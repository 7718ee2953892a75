use Rattle.belief_theory.proofs.SoundBeliefs.{fires_where_believed}
use Rattle.tmm_laws.proofs.beliefs.decisions_fire_where_believed.Goals as goal

pub returns : goal.returns
returns c = fires_where_believed
