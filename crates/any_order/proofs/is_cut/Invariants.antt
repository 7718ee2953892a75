use Rattle.std.proofs.Common.{◌≡◌, false, drop}
use Rattle.std.specs.List.{list_any}
use Rattle.tmm_model.specs.Tokens.{of_one_class, cuts}
use Rattle.any_order.proofs.is_cut.Given as goal

abbrev pub invariant-loop-i : goal.invariant-loop-i
invariant-loop-i g l =
    record {
      uncut : list_any (cuts of_one_class (g.S.Sure.distance l.order) l.k l.q) (drop l.i l.tokens) ≡ false;
      kept : l.cutter ≡ l.initial.cutter;
    }
