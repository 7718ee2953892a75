use Rattle.joined.proofs.Listed.{pairs_listed}
use Rattle.joined.proofs.laws.pairs_are_listed.Goals as goal

pub returns : goal.returns
returns c = pairs_listed
