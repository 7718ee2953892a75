use Rattle.undo_rows.specs.Changes.{present as table}
use Rattle.occ_tree.specs.Places.{forest}
use Rattle.occ_tree.specs.Standing.{present}
use Rattle.marking.specs.LeftMarks.{WakesGone}
use Rattle.bearing.specs.Gone.{BoreNot}
use Rattle.belief_table.specs.Waiting.{dates_in}
use Rattle.marking.proofs.Waking.{UnderFirst}
use Rattle.marking.proofs.tokens_departed.wake_under.Given as goal

abbrev pub invariant-loop-place : goal.invariant-loop-place
invariant-loop-place l =
    WakesGone (present l.tree) (table l.rows) l.net.committed l.gone
    (UnderFirst (present l.tree) (table l.rows) (λ x. Unit {0}) (BoreNot l.net.committed (forest l.tree) l.gone) l.place l.number) (dates_in l.fn.waiting) (dates_in l.waiting)
