use Rattle.std.specs.Ordering.{on}
use Rattle.tmm_model.specs.Tokens.{of_one_class, supports}
use Rattle.belief_theory.specs.FirstPlaces.{IsFirstPlaceAmong}
use Rattle.clipping.specs.Cutters.{BeginsBy}
use Rattle.any_order.proofs.holder.Given as goal

abbrev pub invariant-loop-i : goal.invariant-loop-i
invariant-loop-i g l =
    record {
      best : IsFirstPlaceAmong (on (λ k. k.spot) (g.S.Sure.order l.order)) (supports of_one_class (g.S.Sure.distance l.order) l.tokens l.fact l.p l.q) l.tokens l.i l.best;
      begins : BeginsBy (g.S.Sure.distance l.order) l.tokens l.q l.cutter;
    }
