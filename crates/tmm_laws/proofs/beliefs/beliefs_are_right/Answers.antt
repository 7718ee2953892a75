use Rattle.belief_theory.proofs.LevelRight.{beliefs_right}
use Rattle.tmm_laws.proofs.beliefs.beliefs_are_right.Goals as goal

pub returns : goal.returns
returns c = beliefs_right
