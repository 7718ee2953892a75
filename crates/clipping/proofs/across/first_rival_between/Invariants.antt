use Rattle.clipping.specs.Cutters.{clips_until}
use Rattle.clipping.specs.ByDate.{NonePass}
use Rattle.clipping.specs.Rivals.{are_rivals}
use Rattle.clipping.proofs.across.first_rival_between.Given as goal

abbrev pub invariant-loop-i : goal.invariant-loop-i
invariant-loop-i g l = NonePass (clips_until (are_rivals (g.R.Rivals.against l.rivals)) (g.S.Sure.distance l.order) l.k l.until) l.tokens l.low l.i
