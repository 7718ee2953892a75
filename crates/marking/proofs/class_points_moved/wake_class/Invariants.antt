use Rattle.std.proofs.Common.{◌≡◌}
use Rattle.undo_rows.specs.Changes.{present as table}
use Rattle.occ_tree.specs.Places.{forest}
use Rattle.occ_tree.specs.Standing.{present}
use Rattle.belief_table.specs.Waiting.{dates_in}
use Rattle.marking.specs.Woken.{AreMovesOf, MovesFor, RestsFor, WakesFor}
use Rattle.marking.proofs.Waking.{UnderFirst}
use Rattle.marking.proofs.class_points_moved.wake_class.Given as goal

abbrev pub invariant-loop-place : goal.invariant-loop-place
invariant-loop-place l = record {
  class : l.of_class.class ≡ l.fn.class;
  moves : AreMovesOf l.net l.moves (present l.tree) l.of_class;
  wakes : WakesFor (present l.tree) (table l.rows) l.net l.moves l.fn.class (UnderFirst (present l.tree) (table l.rows) (MovesFor l.moves (forest l.tree) l.fn.class) (RestsFor l.net l.moves (forest l.tree) l.fn.class) l.place l.number)
      (dates_in l.fn.waiting) (dates_in l.waiting);
}
