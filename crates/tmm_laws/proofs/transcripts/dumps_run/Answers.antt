use Rattle.tmm_laws.proofs.DumpRuns.{dumps_tell, dumps_run}
use Rattle.tmm_laws.proofs.transcripts.dumps_run.Goals as goal

pub returns : goal.returns
returns c = record { tell = dumps_tell; run = dumps_run }
