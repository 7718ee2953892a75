use Rattle.tmm_model.specs.Tokens.{of_one_class, cuts}
use Rattle.clipping.specs.ByDate.{NonePass}
use Rattle.clipping.proofs.by_date.last_between.Given as goal

abbrev pub invariant-loop-i : goal.invariant-loop-i
invariant-loop-i g l = NonePass (cuts of_one_class (g.S.Sure.distance l.order) l.k l.q) l.tokens l.i l.high
