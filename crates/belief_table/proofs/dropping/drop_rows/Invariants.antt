use Rattle.std.proofs.Common.{length}
use Rattle.undo_rows.specs.Changes.{present}
use Rattle.belief_table.specs.Decided.{KeepsLast, AreNoLonger}
use Rattle.belief_table.proofs.Dropped.{Dropping}
use Rattle.belief_table.proofs.dropping.drop_rows.Given as goal

abbrev pub invariant-loop-row : goal.invariant-loop-row
invariant-loop-row l = record { dropping : Dropping l.event l.fn.decisions l.decisions; last : KeepsLast l.fn.decisions l.decisions; fewer : AreNoLonger l.fn.decisions l.decisions }

abbrev pub decreases-loop-row : goal.decreases-loop-row
decreases-loop-row l = length ((present l.decisions.rows).list 0 l.event)
