use Rattle.std.proofs.Common.{◌<◌, ℕ}
use Rattle.std.specs.List.{Contains}
use Rattle.dist_net.specs.Changes.{AreAmong}
use Rattle.dist_net.proofs.changes.list_all.Given as goal

abbrev pub invariant-loop-p : goal.invariant-loop-p
invariant-loop-p l = AreAmong l.fn.moved l.moved × ((p : ℕ) → p < l.p → Contains l.moved p)
