use Rattle.std.proofs.Common.{refl}
use Rattle.tmm_program.proofs.usage.tell_usage.Goals as goal

pub returns-in-Ok-clause-ends : goal.returns-in-Ok-clause-ends
returns-in-Ok-clause-ends g c = (_, c.in-Ok.ensures.bytes, refl)

pub returns-in-Err-clause-ends : goal.returns-in-Err-clause-ends
returns-in-Err-clause-ends g c = (_, c.in-Err.ensures.bytes.1, (c.in-Err.ensures.bytes.0, refl))
