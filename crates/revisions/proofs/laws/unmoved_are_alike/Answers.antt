use Rattle.revisions.proofs.StillEdits.{unmoved}
use Rattle.revisions.proofs.laws.unmoved_are_alike.Goals as goal

pub returns : goal.returns
returns c = λ s t net after moved say of_s of_t keep apart elsewhere. unmoved s t say net after moved of_s of_t keep apart elsewhere
