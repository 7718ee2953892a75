use Rattle.tmm_laws.proofs.DumpRuns.{steps_leave_one}
use Rattle.tmm_laws.proofs.transcripts.steps_leave_one.Goals as goal

pub returns : goal.returns
returns c = steps_leave_one
