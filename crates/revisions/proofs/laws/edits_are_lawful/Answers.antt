use Rattle.revisions.proofs.Lawful.{lawful}
use Rattle.revisions.proofs.laws.edits_are_lawful.Goals as goal

pub returns : goal.returns
returns c = lawful
