use Rattle.dist_repair.specs.Rows.{row_of}
use Rattle.dist_repair.proofs.Drafting.{IsDrafting}
use Rattle.dist_repair.proofs.draft_row.Given as goal

abbrev pub invariant-loop-k : goal.invariant-loop-k
invariant-loop-k l = IsDrafting l.fn.net l.a l.points (row_of l.row) l.k l.net
