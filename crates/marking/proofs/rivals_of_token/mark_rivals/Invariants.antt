use Rattle.std.proofs.Common.{◌≡◌, true}
use Rattle.undo_rows.specs.declared.row.Row.{Row as TableRow}
use Rattle.decision_rows.specs.declared.row.Pair.{Pair}
use Rattle.occ_tree.specs.Standing.{present}
use Rattle.joined.specs.Gaps.{reads_rival}
use Rattle.belief_table.specs.Decided.{table_of, rule_in}
use Rattle.belief_table.specs.Marks.{Marks, IsAsLate}
use Rattle.belief_table.specs.Waiting.{dates_in}
use Rattle.belief_table.proofs.OfRules.{OfFirst}
use Rattle.marking.proofs.rivals_of_token.mark_rivals.Given as goal

abbrev pub invariant-loop-rule : goal.invariant-loop-rule
invariant-loop-rule l = record {
  marks : Marks (present l.tree) (table_of l.fn.decisions)
      (OfFirst (λ (row : TableRow Pair 8). (reads_rival l.standing.present (rule_in l.fn.decisions row) l.fact ≡ true) × IsAsLate (present l.tree) l.from row) l.rule)
      (dates_in l.fn.decisions.waiting) (dates_in l.decisions.waiting);
  others : l.decisions ≡ record l.fn.decisions { waiting = l.decisions.waiting };
}
