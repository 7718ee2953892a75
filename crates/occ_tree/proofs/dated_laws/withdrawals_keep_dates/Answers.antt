use Rattle.occ_tree.proofs.KeptDates.{withdrawals_keep_dates}
use Rattle.occ_tree.proofs.dated_laws.withdrawals_keep_dates.Goals as goal

pub returns : goal.returns
returns c = withdrawals_keep_dates
