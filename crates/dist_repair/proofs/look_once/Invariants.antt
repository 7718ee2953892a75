use Rattle.dist_repair.specs.Rows.{row_of}
use Rattle.dist_repair.proofs.Looking.{IsSurveying}
use Rattle.dist_repair.proofs.look_once.Given as goal

abbrev pub invariant-loop-i : goal.invariant-loop-i
invariant-loop-i l = IsSurveying l.net.present l.place l.a l.ends l.points (row_of l.fn.row) l.i (row_of l.row) l.again.items
