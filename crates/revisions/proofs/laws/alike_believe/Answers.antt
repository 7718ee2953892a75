use Rattle.revisions.proofs.Alike.{alike_believe}
use Rattle.revisions.proofs.laws.alike_believe.Goals as goal

pub returns : goal.returns
returns c = alike_believe
