use Rattle.tmm_model.specs.Tokens.{cuts}
use Rattle.clipping.specs.ByDate.{NonePass}
use Rattle.clipping.specs.Rivals.{are_rivals}
use Rattle.clipping.proofs.across.last_rival_between.Given as goal

abbrev pub invariant-loop-i : goal.invariant-loop-i
invariant-loop-i g l = NonePass (cuts (are_rivals (g.R.Rivals.against l.rivals)) (g.S.Sure.distance l.order) l.k l.q) l.tokens l.i l.high
