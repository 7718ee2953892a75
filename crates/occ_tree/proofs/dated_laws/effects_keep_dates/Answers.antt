use Rattle.occ_tree.proofs.KeptDates.{effects_keep_dates}
use Rattle.occ_tree.proofs.dated_laws.effects_keep_dates.Goals as goal

pub returns : goal.returns
returns c = effects_keep_dates
