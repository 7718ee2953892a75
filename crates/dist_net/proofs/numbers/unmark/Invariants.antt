use Rattle.dist_net.specs.Changes.{AreUnmarked}
use Rattle.dist_net.proofs.numbers.unmark.Given as goal

abbrev pub invariant-loop-p : goal.invariant-loop-p
invariant-loop-p l = AreUnmarked l.list l.p-index l.fn.marks l.marks
