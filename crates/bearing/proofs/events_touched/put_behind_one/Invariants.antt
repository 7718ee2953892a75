use Rattle.std.proofs.Common.{◌≡◌, ◌<◌, true}
use Rattle.bearing.specs.PointSets.{has_pair, PutsIn}
use Rattle.bearing.proofs.events_touched.put_behind_one.Given as goal

abbrev pub invariant-loop-p : goal.invariant-loop-p
invariant-loop-p l = PutsIn (λ k. (k < l.p) × (has_pair l.pairs l.q k ≡ true)) l.fn.into.items l.into.items
