use Rattle.occ_tree.proofs.KeptDates.{roots_date_all}
use Rattle.occ_tree.proofs.dated_laws.roots_date_all.Goals as goal

pub returns : goal.returns
returns c = roots_date_all
