use Rattle.std.proofs.Common.{◌≡◌, ◌<◌, ℕ, length, get_or}
use Rattle.std.specs.List.{Contains}
use Rattle.dist_net.specs.Changes.{AreAmong}
use Rattle.dist_net.proofs.changes.list_each.Given as goal

abbrev pub invariant-loop-p : goal.invariant-loop-p
invariant-loop-p l = AreAmong l.fn.moved l.moved × ((j p : ℕ) → j < l.p-index → j < length l.points → get_or l.points j p ≡ p → Contains l.moved p)
