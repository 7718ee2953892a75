use Rattle.joined.proofs.Touching.{horizons_marked}
use Rattle.joined.proofs.laws.horizons_mark.Goals as goal

pub returns : goal.returns
returns c = horizons_marked
