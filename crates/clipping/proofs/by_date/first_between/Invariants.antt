use Rattle.tmm_model.specs.Tokens.{of_one_class}
use Rattle.clipping.specs.Cutters.{clips_until}
use Rattle.clipping.specs.ByDate.{NonePass}
use Rattle.clipping.proofs.by_date.first_between.Given as goal

abbrev pub invariant-loop-i : goal.invariant-loop-i
invariant-loop-i g l = NonePass (clips_until of_one_class (g.S.Sure.distance l.order) l.k l.until) l.tokens l.low l.i
