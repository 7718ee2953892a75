use Rattle.revisions.proofs.ReadPremises.{same_read}
use Rattle.revisions.proofs.laws.same_read_say_alike.Goals as goal

pub returns : goal.returns
returns c = same_read
