use Rattle.joined.proofs.Preparing.{prepared_netted}
use Rattle.joined.proofs.laws.prepared_are_netted.Goals as goal

pub returns : goal.returns
returns c = prepared_netted
