use Rattle.std.proofs.Common.{◌≡◌, ◌<◌, true}
use Rattle.bearing.specs.MovedPairs.{is_kept}
use Rattle.bearing.specs.PointSets.{PutsIn}
use Rattle.bearing.proofs.what_moved.kept_points.Given as goal

abbrev pub invariant-loop-p : goal.invariant-loop-p
invariant-loop-p l = PutsIn (λ k. (k < l.p) × (is_kept l.net.present.names l.added k ≡ true)) l.initial.kept.items l.kept.items
