use Rattle.std.proofs.Common.{◌≤◌}
use Rattle.dist_net.proofs.table.leave_apart.Given as goal

abbrev pub invariant-loop-a : goal.invariant-loop-a
invariant-loop-a l = l.rows ≤ l.a
