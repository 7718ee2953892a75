use Rattle.belief_net.proofs.MarkedRight.{points_were_there}
use Rattle.belief_net.proofs.mark_laws.points_were_there.Goals as goal

pub returns : goal.returns
returns c = points_were_there
