use Rattle.revisions.proofs.SeedsRight.{seeds_right}
use Rattle.revisions.proofs.laws.seeds_are_right.Goals as goal

pub returns : goal.returns
returns c = λ old edit sound_old sound_new b seeds t r stands. seeds_right old edit sound_old sound_new b seeds t r stands
