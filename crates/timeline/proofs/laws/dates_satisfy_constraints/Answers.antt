use Rattle.timeline.proofs.EarlyDates.{dates_satisfy}
use Rattle.timeline.proofs.laws.dates_satisfy_constraints.Goals as goal

pub returns : goal.returns
returns c = dates_satisfy
