use Rattle.belief_list.proofs.Empty.{none_seen}
use Rattle.belief_trials.proofs.trees.touched_at_first.Goals as goal

pub touched-requires : goal.touched-requires
touched-requires c = (none_seen c.args.net.now.present c.make-tree.result c.requires c.make-tree.ensures.none).list
