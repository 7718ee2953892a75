use Rattle.dist_net.proofs.Indexing.{IsFollowing}
use Rattle.dist_net.proofs.index.Index.follow.Given as goal

abbrev pub invariant-loop-p : goal.invariant-loop-p
invariant-loop-p l = IsFollowing l.old l.new l.p l.self
