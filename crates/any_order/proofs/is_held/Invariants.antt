use Rattle.std.proofs.Common.{◌≡◌, false, drop}
use Rattle.std.specs.List.{list_any}
use Rattle.tmm_model.specs.Tokens.{of_one_class, supports}
use Rattle.clipping.specs.Cutters.{BeginsBy}
use Rattle.any_order.proofs.is_held.Given as goal

abbrev pub invariant-loop-i : goal.invariant-loop-i
invariant-loop-i g l =
    record {
      none : list_any (supports of_one_class (g.S.Sure.distance l.order) l.tokens l.fact l.p l.q) (drop l.i l.tokens) ≡ false;
      begins : BeginsBy (g.S.Sure.distance l.order) l.tokens l.q l.cutter;
    }
