use Rattle.belief_list.proofs.Empty.{none_told, none_then}
use Rattle.belief_trials.proofs.told.changes_of_none.Goals as goal

pub changes_told-requires-clause-left : goal.changes_told-requires-clause-left
changes_told-requires-clause-left c = none_told _ _ (none_then c.args.tree.now c.requires.committed c.requires.none)
