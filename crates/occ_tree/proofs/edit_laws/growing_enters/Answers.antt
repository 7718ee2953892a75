use Rattle.occ_tree.proofs.Members.{growing_enters}
use Rattle.occ_tree.proofs.edit_laws.growing_enters.Goals as goal

pub returns : goal.returns
returns c = growing_enters
