use Rattle.std.proofs.Common.{◌≡◌, length, None}
use Rattle.tmm_model.specs.Standing.{Standing, premise_in}
use Rattle.belief_table.specs.Decided.{table_of}
use Rattle.belief_table.specs.LastCommit.{KeepLast}
use Rattle.belief_table.specs.Erasing.{Sheds, Spares}
use Rattle.belief_table.proofs.erasing.erase_rows.Given as goal

abbrev pub invariant-loop-row : goal.invariant-loop-row
invariant-loop-row l = record {
  sheds : Sheds l.fn.beliefs l.beliefs l.fn.departed l.departed;
  spares : (s : Standing) → premise_in s.premises l.rule ≡ None → Spares s l.fn.beliefs l.beliefs;
  last : KeepLast l.fn.beliefs l.beliefs;
}

abbrev pub decreases-loop-row : goal.decreases-loop-row
decreases-loop-row l = length ((table_of l.beliefs.decisions).list 1 l.number)
