use Rattle.dist_repair.specs.Rows.{row_of}
use Rattle.dist_repair.proofs.Columns.{IsBounding, StandsFrom}
use Rattle.dist_repair.proofs.bound_row.Given as goal

abbrev pub invariant-loop-i : goal.invariant-loop-i
invariant-loop-i l = IsBounding l.net.present l.place (StandsFrom l.columns l.i) l.a l.i l.suspects.items (row_of l.row)
