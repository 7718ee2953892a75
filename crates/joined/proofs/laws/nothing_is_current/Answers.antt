use Rattle.joined.proofs.Netted.{nothing_current}
use Rattle.joined.proofs.laws.nothing_is_current.Goals as goal

pub returns : goal.returns
returns c = nothing_current
