use Rattle.dist_repair.proofs.Ways.{IsSearchingIn}
use Rattle.dist_repair.proofs.way_in.is_way_in.Given as goal

abbrev pub invariant-loop-i : goal.invariant-loop-i
invariant-loop-i l = IsSearchingIn l.net.present l.place l.from l.to l.i
