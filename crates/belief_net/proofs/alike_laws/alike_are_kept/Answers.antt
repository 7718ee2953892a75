use Rattle.belief_net.proofs.AlikeKept.{alike_kept}
use Rattle.belief_net.proofs.alike_laws.alike_are_kept.Goals as goal

pub returns : goal.returns
returns c = alike_kept
