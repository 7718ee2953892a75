use Rattle.tmm_laws.proofs.KeptRuns.{runs_keep}
use Rattle.tmm_laws.proofs.transcripts.runs_keep_lists.Goals as goal

pub returns : goal.returns
returns c = runs_keep
