use Rattle.joined.proofs.Netted.{current}
use Rattle.joined.proofs.laws.netted_are_current.Goals as goal

pub returns : goal.returns
returns c = current
