use Rattle.joined.proofs.Starting.{horizons_keep}
use Rattle.joined.proofs.laws.horizons_keep.Goals as goal

pub returns : goal.returns
returns c = horizons_keep
