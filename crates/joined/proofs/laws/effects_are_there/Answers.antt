use Rattle.joined.proofs.Entering.{effect_there}
use Rattle.joined.proofs.laws.effects_are_there.Goals as goal

pub returns : goal.returns
returns c = effect_there
