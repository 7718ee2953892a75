use Rattle.std.proofs.Common.{◌≡◌, ℕ, ◌<◌, true}
use Rattle.bearing.specs.PointSets.{is_in}
use Rattle.bearing.proofs.point_sets.meet.Given as goal

abbrev pub invariant-loop-p : goal.invariant-loop-p
invariant-loop-p l = (k : ℕ) → k < l.p → is_in l.a k ≡ true → is_in l.b k ≡ true → ⊥
