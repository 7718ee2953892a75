use Rattle.revisions.proofs.Whole.{revisions_right}
use Rattle.revisions.proofs.laws.revisions_are_right.Goals as goal

pub returns : goal.returns
returns c = revisions_right
