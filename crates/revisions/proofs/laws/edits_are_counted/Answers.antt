use Rattle.revisions.proofs.Bounds.{counted}
use Rattle.revisions.proofs.laws.edits_are_counted.Goals as goal

pub returns : goal.returns
returns c = counted
