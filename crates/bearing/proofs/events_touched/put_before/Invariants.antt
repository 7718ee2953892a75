use Rattle.std.proofs.Common.{ℕ, ◌<◌, get_or}
use Rattle.bearing.specs.PointSets.{PutsIn}
use Rattle.bearing.specs.Touching.{LeadsIntoBy}
use Rattle.bearing.proofs.events_touched.put_before.Given as goal

abbrev pub invariant-loop-p : goal.invariant-loop-p
invariant-loop-p l = PutsIn (λ p. (k : ℕ) × (k < l.p-index) × (LeadsIntoBy l.pairs l.set (get_or l.moved k 0) p)) l.fn.into.items l.into.items
