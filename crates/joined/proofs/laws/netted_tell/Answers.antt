use Rattle.joined.proofs.Telling.{netted_tell}
use Rattle.joined.proofs.laws.netted_tell.Goals as goal

pub returns : goal.returns
returns c = netted_tell
