use Rattle.revisions.proofs.Ruling.{unruled_edit}
use Rattle.revisions.proofs.laws.unruled_edits_keep_rules.Goals as goal

pub returns : goal.returns
returns c = unruled_edit
