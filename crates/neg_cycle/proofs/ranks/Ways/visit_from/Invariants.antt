use Rattle.neg_cycle.specs.Ranks.{AreWays}
use Rattle.neg_cycle.proofs.ranks.Ways.visit_from.Given as goal

abbrev pub invariant-loop-place : goal.invariant-loop-place
invariant-loop-place l = AreWays l.net.present.edges l.b l.self
