use Rattle.revisions.proofs.Shifts.{shifts_keep}
use Rattle.revisions.proofs.laws.shifts_keep.Goals as goal

pub returns : goal.returns
returns c = shifts_keep
