use Rattle.std.proofs.Common.{◌≡◌, ◌<◌, true}
use Rattle.bearing.specs.PointSets.{PutsIn}
use Rattle.bearing.proofs.events_touched.put_every.Given as goal

abbrev pub invariant-loop-p : goal.invariant-loop-p
invariant-loop-p l = PutsIn (λ k. (k < l.p) × (l.is ≡ true)) l.fn.into.items l.into.items
