use Rattle.dist_repair.proofs.Erasing.{IsErasing}
use Rattle.dist_repair.proofs.repair_others.Given as goal

abbrev pub invariant-loop-a : goal.invariant-loop-a
invariant-loop-a l = IsErasing l.fn.net l.place l.from l.columns l.a l.net
