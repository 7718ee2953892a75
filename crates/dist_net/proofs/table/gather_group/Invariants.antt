use Rattle.std.proofs.Common.{◌<◌, ◌≤◌}
use Rattle.dist_net.proofs.Groups.{IsGathering}
use Rattle.dist_net.proofs.table.gather_group.Given as goal

abbrev pub invariant-loop-place : goal.invariant-loop-place
invariant-loop-place l = IsGathering l.table l.to l.fn.columns l.columns l.first l.end × (l.first < l.end) × (l.end ≤ l.place)
