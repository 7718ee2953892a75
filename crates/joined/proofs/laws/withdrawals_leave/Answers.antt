use Rattle.joined.proofs.Leaving.{leaves}
use Rattle.joined.proofs.laws.withdrawals_leave.Goals as goal

pub returns : goal.returns
returns c = leaves
