use Rattle.std.specs.Ordering.{on}
use Rattle.clipping.specs.Across.{IsFirstPlaceInLists}
use Rattle.clipping.specs.Cutters.{clips_until}
use Rattle.clipping.specs.Rivals.{of_rivals}
use Rattle.clipping.proofs.across.first_clip.Given as goal

abbrev pub invariant-loop-i : goal.invariant-loop-i
invariant-loop-i g l = IsFirstPlaceInLists (on (λ k. k.spot) (g.S.Sure.order l.order)) (clips_until (of_rivals (g.R.Rivals.against l.rivals)) (g.S.Sure.distance l.order) l.k l.until) (g.T.Tokens.lists l.tokens) l.i l.clip
