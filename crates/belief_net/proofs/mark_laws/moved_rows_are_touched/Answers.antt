use Rattle.belief_net.proofs.MarkedRight.{moved_rows_are_touched}
use Rattle.belief_net.proofs.mark_laws.moved_rows_are_touched.Goals as goal

pub returns : goal.returns
returns c = moved_rows_are_touched
