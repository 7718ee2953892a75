use Rattle.tmm_laws.proofs.Exceptions.{exceptions_lack_support}
use Rattle.tmm_laws.proofs.beliefs.exceptions_lack_support.Goals as goal

pub returns : goal.returns
returns c = exceptions_lack_support
