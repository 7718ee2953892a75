-- The rows that read what is marked wait, with the dates of nodes.
use Rattle.std.specs.Prelude.{◌≡◌, true, ℕ, List}
use Rattle.tmm_model.specs.Standing.{Standing}
use Rattle.undo_rows.specs.declared.row.Row.{Row as TableRow}
use Rattle.decision_rows.specs.declared.row.Pair.{Pair}
use Rattle.occ_tree.specs.Standing.{State, early}
use Rattle.joined.specs.Gaps.{reads_rival}
use Rattle.belief_table.specs.declared.state.Decisions.{Decisions}
use Rattle.marking.specs.EditMarks.{Marked, date_of, ReadsClass, AllWait}
use Rattle.belief_table.specs.Decided.{table_of, rule_in}
use Rattle.belief_table.specs.Waiting.{dates_in}

-- the rows of all marked classes wait, as far as they are later than what was decided
abbrev pub CoverClasses : State → Decisions → Marked → Type 0
CoverClasses s d m = AllWait ReadsClass (early s) (table_of d).row (dates_in d.waiting) (dates_in m.classes) m.decided

-- the row is of a rule that reads what contradicts the fact
abbrev pub ReadsRival : Standing → Decisions → TableRow Pair 8 → List ℕ → Type 0
ReadsRival list d row fact = reads_rival list (rule_in d row) fact ≡ true

-- so do the rows of all rules that read what contradicts a marked fact
abbrev pub CoverFacts : Standing → State → Decisions → Marked → Type 0
CoverFacts list s d m = AllWait (ReadsRival list d) (early s) (table_of d).row (dates_in d.waiting) (date_of m.facts) m.decided

-- both
pub record Covers (list : Standing) (s : State) (d : Decisions) (m : Marked) : Type 0 where
  pub classes : CoverClasses s d m
  pub facts : CoverFacts list s d m
