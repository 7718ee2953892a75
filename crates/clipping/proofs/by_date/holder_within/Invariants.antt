use Rattle.tmm_model.specs.Tokens.{of_one_class, supports}
use Rattle.clipping.specs.ByDate.{NonePass}
use Rattle.clipping.specs.Cutters.{BeginsBy}
use Rattle.clipping.proofs.by_date.holder_within.Given as goal

abbrev pub invariant-loop-i : goal.invariant-loop-i
invariant-loop-i g l = record {
  none : NonePass (supports of_one_class (g.S.Sure.distance l.order) l.tokens l.fact l.p l.q) l.tokens 0 l.i;
  begins : BeginsBy (g.S.Sure.distance l.order) l.tokens l.q l.search.cutter;
}
