use Rattle.joined.proofs.Shifting.{resting_keep}
use Rattle.joined.proofs.laws.resting_keep.Goals as goal

pub returns : goal.returns
returns c = resting_keep
