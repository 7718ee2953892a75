use Rattle.occ_tree.proofs.Members.{shrinking_withdraws}
use Rattle.occ_tree.proofs.edit_laws.shrinking_withdraws.Goals as goal

pub returns : goal.returns
returns c = shrinking_withdraws
