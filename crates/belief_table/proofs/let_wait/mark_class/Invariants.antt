use Rattle.occ_tree.specs.Standing.{present}
use Rattle.undo_rows.specs.Changes.{present as table}
use Rattle.belief_table.specs.Marks.{Marks}
use Rattle.belief_table.specs.Waiting.{dates_in}
use Rattle.bearing.specs.Windows.{spares_in}
use Rattle.belief_table.proofs.Marked.{UnderFirst}
use Rattle.belief_table.proofs.let_wait.mark_class.Given as goal

abbrev pub invariant-loop-place : goal.invariant-loop-place
invariant-loop-place l = Marks (present l.tree) (table l.rows) (UnderFirst (present l.tree) (table l.rows) l.from (spares_in l.window) l.place l.class) (dates_in l.fn.waiting) (dates_in l.waiting)
