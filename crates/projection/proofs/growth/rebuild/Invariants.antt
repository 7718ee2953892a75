use Rattle.std.proofs.Common.{◌≡◌, ℕ, ◌+◌, ◌≤◌, min, take}
use Rattle.projection.specs.Projecting.{IsStarted, IsGrowing, left}
use Rattle.occ_tree.specs.Dated.{IsDatedBy}
use Rattle.occ_tree.specs.Places.{forest}
use Rattle.occ_tree.specs.Standing.{present}
use Rattle.projection.proofs.growth.rebuild.Given as goal

abbrev pub invariant-loop-place : goal.invariant-loop-place
invariant-loop-place l = IsStarted l.standing.present l.net.present (take l.place l.standing.present.premises) (forest l.growing.tree) l.growing.queue l.growing.size × IsDatedBy l.net.present (present l.growing.tree)

abbrev pub invariant-loop-pending : goal.invariant-loop-pending
invariant-loop-pending l = (made : ℕ) × IsGrowing l.standing.present l.net.present (forest l.growing.tree) l.growing.queue l.growing.size made × IsDatedBy l.net.present (present l.growing.tree) × (l.counter ≡ min (l.fn.counter + made) 18446744073709551615) × (l.fn.counter ≤ l.counter)

abbrev pub decreases-loop-pending : goal.decreases-loop-pending
decreases-loop-pending l = left l.growing.queue l.growing.size
