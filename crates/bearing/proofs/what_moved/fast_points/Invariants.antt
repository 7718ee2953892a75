use Rattle.std.proofs.Common.{◌<◌}
use Rattle.bearing.specs.Fast.{IsFastBy}
use Rattle.bearing.specs.PointSets.{PutsIn}
use Rattle.bearing.proofs.what_moved.fast_points.Given as goal

abbrev pub invariant-loop-p : goal.invariant-loop-p
invariant-loop-p l = PutsIn (λ k. (k < l.p) × IsFastBy l.moved l.pairs l.kept k) l.initial.fast.items l.fast.items
