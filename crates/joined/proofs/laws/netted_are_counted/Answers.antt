use Rattle.joined.proofs.Netted.{counted}
use Rattle.joined.proofs.laws.netted_are_counted.Goals as goal

pub returns : goal.returns
returns c = counted
