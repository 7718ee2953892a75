use Rattle.std.proofs.Common.{◌≡◌, ℕ, true}
use Rattle.std.specs.Prelude.{◌↔◌}
use Rattle.undo_rows.specs.Changes.{present as table}
use Rattle.occ_tree.specs.Places.{forest}
use Rattle.occ_tree.specs.Standing.{present}
use Rattle.bearing.specs.Events.{is_event_of}
use Rattle.belief_table.specs.Marks.{Marks}
use Rattle.belief_table.specs.Waiting.{dates_in}
use Rattle.marking.specs.Woken.{MovesFrom}
use Rattle.marking.proofs.Awake.{AtFirst, AwakeFirst}
use Rattle.marking.proofs.events_moved.wake_moved_events.Given as goal

abbrev pub invariant-loop-x : goal.invariant-loop-x
invariant-loop-x l = record {
  touched : (x : ℕ) → (is_event_of l.events (present l.tree) x ≡ true) ↔ MovesFrom l.moves (forest l.tree) x;
  marks : Marks (present l.tree) (table l.rows) (AtFirst (present l.tree) l.nodes l.events l.x-index) (dates_in l.fn.waiting) (dates_in l.waiting);
  awake : AwakeFirst l.net (table l.rows) l.nodes l.x-index l.awake (dates_in l.waiting);
}
