use Rattle.std.proofs.Common.{◌≡◌, ◌<◌}
use Rattle.occ_tree.specs.Places.{forest}
use Rattle.occ_tree.specs.Standing.{present}
use Rattle.belief_table.specs.Decided.{table_of, rule_in}
use Rattle.belief_table.specs.Marks.{Wakes}
use Rattle.belief_table.specs.Waiting.{dates_in}
use Rattle.marking.specs.Woken.{MovesByRule, StaysByRule}
use Rattle.marking.proofs.rival_points_moved.wake_rivalled.Given as goal

abbrev pub invariant-loop-rule : goal.invariant-loop-rule
invariant-loop-rule l = record {
  wakes : Wakes (present l.tree) (table_of l.fn.decisions) (λ i row. MovesByRule l.moves l.standing.present (forest l.tree) (rule_in l.fn.decisions row) row.value.trigger)
      (λ i row. row.value.rule < l.rule → StaysByRule l.moves l.standing.committed l.standing.present (forest l.tree) (rule_in l.fn.decisions row) row.value.trigger)
      (dates_in l.fn.decisions.waiting) (dates_in l.decisions.waiting);
  others : l.decisions ≡ record l.fn.decisions { waiting = l.decisions.waiting };
}
