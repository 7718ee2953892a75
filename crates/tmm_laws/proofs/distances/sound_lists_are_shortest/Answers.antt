use Rattle.belief_theory.proofs.Sound.{shortest, sound_rules}
use Rattle.tmm_laws.proofs.distances.sound_lists_are_shortest.Goals as goal

pub returns : goal.returns
returns c = λ s sound. (shortest s sound, sound_rules s sound)
