use Rattle.joined.proofs.Listed.{readers_listed}
use Rattle.joined.proofs.laws.readers_are_listed.Goals as goal

pub returns : goal.returns
returns c = readers_listed
