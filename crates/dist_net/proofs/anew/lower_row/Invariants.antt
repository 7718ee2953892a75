use Rattle.dist_net.specs.Table.{IsLoweredTo}
use Rattle.dist_net.proofs.anew.lower_row.Given as goal

abbrev pub invariant-loop-b : goal.invariant-loop-b
invariant-loop-b l = IsLoweredTo l.fn.table l.a l.c l.first l.b l.table
