use Rattle.std.proofs.Common.{rules}
use Rattle.repairs.specs.Told.{names_protection}
use Rattle.repairs.proofs.judging.names_protection.Goals as goal

pub returns-in-Some-Protect : goal.returns-in-Some-Protect
unfolding names_protection
returns-in-Some-Protect c = search rules

pub returns-in_default : goal.returns-in_default
unfolding names_protection
returns-in_default c = search rules

pub returns-in_default-2 : goal.returns-in_default-2
unfolding names_protection
returns-in_default-2 c = search rules
