use Rattle.std.specs.Ordering.{on}
use Rattle.tmm_model.specs.Tokens.{of_one_class}
use Rattle.belief_theory.specs.FirstPlaces.{IsFirstPlaceAmong}
use Rattle.clipping.specs.Cutters.{clips_until}
use Rattle.any_order.proofs.first_clip.Given as goal

abbrev pub invariant-loop-i : goal.invariant-loop-i
invariant-loop-i g l =
    IsFirstPlaceAmong (on (λ k. k.spot) (g.S.Sure.order l.order)) (clips_until of_one_class (g.S.Sure.distance l.order) l.k l.until) l.tokens l.i l.clip
