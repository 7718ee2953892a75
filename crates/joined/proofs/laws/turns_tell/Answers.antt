use Rattle.joined.proofs.Telling.{turn_tells}
use Rattle.joined.proofs.laws.turns_tell.Goals as goal

pub returns : goal.returns
returns c = turn_tells
