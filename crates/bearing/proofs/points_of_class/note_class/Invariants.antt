use Rattle.occ_tree.specs.Places.{forest}
use Rattle.bearing.specs.Reach.{Notes}
use Rattle.bearing.proofs.Reached.{OfFirstRows}
use Rattle.bearing.proofs.points_of_class.note_class.Given as goal

abbrev pub invariant-loop-i : goal.invariant-loop-i
invariant-loop-i l = Notes (forest l.tree) (OfFirstRows (forest l.tree) l.rows l.i) l.fn.reach l.reach
