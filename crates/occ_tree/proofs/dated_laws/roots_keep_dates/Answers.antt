use Rattle.occ_tree.proofs.KeptDates.{roots_keep_dates}
use Rattle.occ_tree.proofs.dated_laws.roots_keep_dates.Goals as goal

pub returns : goal.returns
returns c = roots_keep_dates
