use Rattle.belief_net.proofs.MarkedRight.{resting_rows_keep}
use Rattle.belief_net.proofs.mark_laws.resting_rows_keep.Goals as goal

pub returns : goal.returns
returns c = resting_rows_keep
