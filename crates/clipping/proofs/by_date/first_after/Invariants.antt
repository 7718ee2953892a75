use Rattle.clipping.specs.ByDate.{NonePass}
use Rattle.clipping.specs.Cutters.{is_after}
use Rattle.clipping.proofs.by_date.first_after.Given as goal

abbrev pub invariant-loop-i : goal.invariant-loop-i
invariant-loop-i g l = NonePass (is_after l.fact (g.S.Sure.distance l.order) l.spot) l.tokens l.low l.i
