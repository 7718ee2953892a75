use Rattle.joined.proofs.Telling.{prepared_told}
use Rattle.joined.proofs.laws.prepared_are_told.Goals as goal

pub returns : goal.returns
returns c = prepared_told
