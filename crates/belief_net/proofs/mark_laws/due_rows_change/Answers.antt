use Rattle.belief_net.proofs.MarkedRight.{due_rows_change}
use Rattle.belief_net.proofs.mark_laws.due_rows_change.Goals as goal

pub returns : goal.returns
returns c = due_rows_change
