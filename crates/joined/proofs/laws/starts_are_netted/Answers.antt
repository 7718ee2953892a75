use Rattle.joined.proofs.Starting.{started}
use Rattle.joined.proofs.laws.starts_are_netted.Goals as goal

pub returns : goal.returns
returns c = started
