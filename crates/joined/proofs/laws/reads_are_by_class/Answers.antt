use Rattle.joined.proofs.Starting.{reads_by_class}
use Rattle.joined.proofs.laws.reads_are_by_class.Goals as goal

pub returns : goal.returns
returns c = reads_by_class
