use Rattle.std.proofs.Common.{◌≡◌, true}
use Rattle.occ_tree.specs.Places.{forest}
use Rattle.occ_tree.specs.Standing.{present}
use Rattle.belief_table.specs.Decided.{table_of}
use Rattle.belief_table.specs.Waiting.{dates_in}
use Rattle.marking.specs.Woken.{WakesForAll, AreAwake}
use Rattle.marking.proofs.points_moved.wake_classes.Given as goal

abbrev pub invariant-loop-class : goal.invariant-loop-class
invariant-loop-class l = record {
  wakes : WakesForAll (present l.tree) l.net l.moves l.fn.decisions l.class (dates_in l.fn.decisions.waiting) (dates_in l.decisions.waiting);
  awake : l.awake ≡ true → AreAwake l.net (forest l.tree) (table_of l.fn.decisions) (dates_in l.decisions.waiting);
  others : l.decisions ≡ record l.fn.decisions { waiting = l.decisions.waiting };
}
