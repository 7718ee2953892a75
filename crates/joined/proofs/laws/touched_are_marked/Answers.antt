use Rattle.joined.proofs.Touching.{touched_marked}
use Rattle.joined.proofs.laws.touched_are_marked.Goals as goal

pub returns : goal.returns
returns c = touched_marked
