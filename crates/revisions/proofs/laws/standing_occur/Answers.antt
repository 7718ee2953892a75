use Rattle.revisions.proofs.Standing.{standing_occurs}
use Rattle.revisions.proofs.laws.standing_occur.Goals as goal

pub returns : goal.returns
returns c = standing_occurs
