use Rattle.belief_theory.proofs.LevelDistinct.{level_distinct}
use Rattle.belief_theory.proofs.SoundBeliefs.{sound_timed}
use Rattle.tmm_model.specs.Standing.{far_in}
use Rattle.timeline.proofs.AsBelieved.{as_believed}
use Rattle.timeline.proofs.Once.{roots_once, rules_once}
use Rattle.timeline.proofs.laws.played_is_believed.Goals as goal

pub returns : goal.returns
returns c = λ s sound fixed.
    as_believed s sound fixed (roots_once s sound) (rules_once s sound)
    (level_distinct s (far_in s.premises) (sound_timed s sound) (roots_once s sound) (rules_once s sound) s.horizon)
