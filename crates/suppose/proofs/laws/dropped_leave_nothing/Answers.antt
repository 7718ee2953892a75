use Rattle.suppose.proofs.Moves.{dropped_leave}
use Rattle.suppose.proofs.laws.dropped_leave_nothing.Goals as goal

pub returns : goal.returns
returns c = dropped_leave
