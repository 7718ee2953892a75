use Rattle.neg_cycle.proofs.Linked.{IsLinking}
use Rattle.neg_cycle.proofs.ends.link.Given as goal

abbrev pub invariant-loop-i : goal.invariant-loop-i
invariant-loop-i l = IsLinking l.edges l.i l.last l.before
