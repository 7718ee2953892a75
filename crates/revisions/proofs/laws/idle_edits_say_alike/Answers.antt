use Rattle.revisions.proofs.IdleEdits.{idle_edit}
use Rattle.revisions.proofs.laws.idle_edits_say_alike.Goals as goal

pub returns : goal.returns
returns c = idle_edit
