use Rattle.occ_tree.specs.Places.{forest}
use Rattle.bearing.specs.Reach.{Notes}
use Rattle.bearing.proofs.WatchedPoints.{OfFirstRowsOf}
use Rattle.bearing.proofs.points_of_rule.note_tokens.Given as goal

abbrev pub invariant-loop-i : goal.invariant-loop-i
invariant-loop-i l = Notes (forest l.tree) (OfFirstRowsOf (forest l.tree) l.fact l.rows l.i) l.fn.reach l.reach
