use Rattle.std.proofs.Common.{length}
use Rattle.std.specs.Option.{ForSome}
use Rattle.tmm_model.specs.Tokens.{supports}
use Rattle.clipping.specs.Across.{list_at, all_of, IsCutSpot}
use Rattle.clipping.specs.ByDate.{NonePass}
use Rattle.clipping.specs.Cutters.{BeginsBy}
use Rattle.clipping.specs.Rivals.{of_rivals}
use Rattle.clipping.proofs.across.is_held.Given as goal

abbrev pub invariant-loop-i : goal.invariant-loop-i
invariant-loop-i g l = record {
  none : NonePass (supports (of_rivals (g.R.Rivals.against l.rivals)) (g.S.Sure.distance l.order) (all_of (g.T.Tokens.lists l.tokens)) l.fact l.p l.q) (list_at (g.T.Tokens.lists l.tokens) l.own) l.i (length (list_at (g.T.Tokens.lists l.tokens) l.own));
  cut : ForSome l.elsewhere (IsCutSpot (of_rivals (g.R.Rivals.against l.rivals)) (g.S.Sure.distance l.order) (g.S.Sure.live l.order) (all_of (g.T.Tokens.lists l.tokens)) l.fact l.q);
  begins : BeginsBy (g.S.Sure.distance l.order) (list_at (g.T.Tokens.lists l.tokens) l.own) l.q l.search.cutter;
}
