use Rattle.dist_repair.proofs.Ways.{IsClosing}
use Rattle.dist_repair.proofs.way_in.draft_in.Given as goal

abbrev pub invariant-loop-a : goal.invariant-loop-a
invariant-loop-a l = IsClosing l.fn.net l.to l.a l.net
