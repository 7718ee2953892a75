use Rattle.revisions.proofs.UnreadEdits.{unread_edit}
use Rattle.revisions.proofs.laws.unread_edits_say_alike.Goals as goal

pub returns : goal.returns
returns c = unread_edit
