use Rattle.joined.proofs.Touching.{resting_marked}
use Rattle.joined.proofs.laws.resting_are_marked.Goals as goal

pub returns : goal.returns
returns c = resting_marked
