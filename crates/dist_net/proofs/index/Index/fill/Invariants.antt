use Rattle.std.proofs.Common.{◌≤◌, length}
use Rattle.dist_net.proofs.Indexing.{AreIndexedTo}
use Rattle.dist_net.proofs.index.Index.fill.Given as goal

abbrev pub invariant-loop-p : goal.invariant-loop-p
invariant-loop-p l = (length l.self ≤ l.p) × AreIndexedTo l.names l.p l.self
