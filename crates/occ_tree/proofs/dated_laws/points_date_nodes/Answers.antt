use Rattle.occ_tree.proofs.KeptDates.{points_date_nodes}
use Rattle.occ_tree.proofs.dated_laws.points_date_nodes.Goals as goal

pub returns : goal.returns
returns c = points_date_nodes
