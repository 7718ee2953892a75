use Rattle.belief_list.proofs.Empty.{none_seen}
use Rattle.belief_trials.proofs.told.changes_at_first.Goals as goal

pub changes_of_none-requires-clause-dates : goal.changes_of_none-requires-clause-dates
changes_of_none-requires-clause-dates c = none_seen c.args.net.now.present c.make-tree.result c.requires c.make-tree.ensures.none
