use Rattle.dist_repair.proofs.Ways.{IsLeastOut}
use Rattle.dist_repair.proofs.way_out.least_out.Given as goal

abbrev pub invariant-loop-k : goal.invariant-loop-k
invariant-loop-k l = IsLeastOut l.net.present l.place l.from l.list l.b l.k l.least
