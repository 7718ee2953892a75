use Rattle.tmm_laws.proofs.EditLaws.{dump_reloads}
use Rattle.tmm_laws.proofs.edits.dump_reloads.Goals as goal

pub returns : goal.returns
returns c = dump_reloads
