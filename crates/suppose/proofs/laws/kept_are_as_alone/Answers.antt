use Rattle.suppose.proofs.Alone.{kept_alone}
use Rattle.suppose.proofs.laws.kept_are_as_alone.Goals as goal

pub returns : goal.returns
returns c = kept_alone
