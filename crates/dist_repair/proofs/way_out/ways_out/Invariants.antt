use Rattle.dist_repair.proofs.Ways.{AreWaysTo}
use Rattle.dist_repair.proofs.way_out.ways_out.Given as goal

abbrev pub invariant-loop-i : goal.invariant-loop-i
invariant-loop-i l = AreWaysTo l.net.present l.place l.from l.i l.list.items
