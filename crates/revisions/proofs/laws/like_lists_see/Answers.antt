use Rattle.revisions.proofs.StillEdits.{stay_seen}
use Rattle.revisions.proofs.laws.like_lists_see.Goals as goal

pub returns : goal.returns
returns c = λ s t net after f say of_t keep seen. stay_seen s t say net after f of_t keep seen
