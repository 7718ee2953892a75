use Rattle.std.proofs.Common.{◌≡◌, ◌<◌}
use Rattle.occ_tree.specs.Standing.{present}
use Rattle.marking.specs.Contradicted.{ReadsUnlike, IsAlikeRow}
use Rattle.belief_table.specs.Decided.{table_of, rule_in}
use Rattle.belief_table.specs.Marks.{Wakes}
use Rattle.belief_table.specs.Waiting.{dates_in}
use Rattle.marking.proofs.contradictions_changed.mark_contradicted.Given as goal

abbrev pub invariant-loop-rule : goal.invariant-loop-rule
invariant-loop-rule l = record {
  wakes : Wakes (present l.tree) (table_of l.fn.decisions) (λ i row. ReadsUnlike l.standing.committed l.standing.present (rule_in l.fn.decisions row))
      (λ i row. row.value.rule < l.rule → IsAlikeRow l.standing.committed l.standing.present (present l.tree) (rule_in l.fn.decisions row) row)
      (dates_in l.fn.decisions.waiting) (dates_in l.decisions.waiting);
  others : l.decisions ≡ record l.fn.decisions { waiting = l.decisions.waiting };
}
