use Rattle.belief_list.proofs.Empty.{none_listed}
use Rattle.belief_trials.proofs.told.told_of_none.Goals as goal

pub compare-requires-clause-old : goal.compare-requires-clause-old
compare-requires-clause-old c = none_listed _ c.requires

pub compare-requires-clause-new : goal.compare-requires-clause-new
compare-requires-clause-new c = none_listed _ c.requires
