-- A turn of the loop: the row that is due first is decided again.
use Rattle.std.specs.Prelude.{◌≡◌, ℕ, ℤ, List, Some}
use Rattle.belief_theory.specs.Outcomes.{outcome}
use Rattle.tmm_model.specs.declared.premise.Edit.{Edit}
use Rattle.tmm_model.specs.Edits.{next_list}
use Rattle.tmm_model.specs.Moments.{Moment}
use Rattle.tmm_model.specs.Standing.{Standing, far_in}
use Rattle.dist_net.specs.Net.{Net}
use Rattle.spots.specs.Forest.{moment_at}
use Rattle.spots.specs.OfLists.{HasOccurrences}
use Rattle.undo_rows.specs.declared.row.Row.{Row as TableRow}
use Rattle.undo_rows.specs.Changes.{present as table}
use Rattle.decision_rows.specs.Decisions.{Decides}
use Rattle.decision_rows.specs.declared.row.Pair.{Pair}
use Rattle.decision_rows.specs.declared.row.Decision.{Decision}
use Rattle.occ_tree.specs.OfLists.{IsTreeOf}
use Rattle.occ_tree.specs.Places.{forest}
use Rattle.occ_tree.specs.Standing.{present, early}
use Rattle.joined.specs.Kept.{IsKeptBy}
use Rattle.joined.specs.Rows.{Rows, rows_in, decision_of}
use Rattle.belief_turns.specs.declared.deciding.Due.{Due}
use Rattle.belief_table.specs.declared.state.Beliefs.{Beliefs}
use Rattle.belief_table.specs.Decided.{table_of, rule_in, AreUnder}
use Rattle.belief_table.specs.Marks.{HaveEvents}
use Rattle.belief_table.specs.Numbers.{name_in}
use Rattle.belief_table.specs.Waiting.{dates_in, waits_in, Takes}

-- the rows by the names of their rules, with those that wait
abbrev pub rows_of : Beliefs → Rows
rows_of b = rows_in (table b.decisions.rows) (name_in b.decisions.rules) (waits_in b.decisions.waiting)

-- Nodes are occurrences of the list with their dates in the network. Each row is of an event, under
-- the classes of what its rule reads, and where it waits, it does so for the date of its event.
pub record IsFit (s : Standing) (net : Net) (b : Beliefs) : Type 0 where
  pub tree : IsTreeOf s net b.tree
  pub events : HaveEvents b.tree (table_of b.decisions)
  pub under : AreUnder s b.decisions
  pub dated : (i : ℕ) (date : ℤ) → dates_in b.decisions.waiting i ≡ Some date → (row : TableRow Pair 8) × ((table_of b.decisions).row i ≡ Some row) × (date ≡ early (present b.tree) row.value.trigger)

-- nodes and rows stand for the revision that the edit asks for, of which these decisions were made
abbrev pub IsUnderway : Standing → Edit → Net → Beliefs → List (Moment × List ℕ) → Type 0
IsUnderway old edit net b taken = IsKeptBy old edit net (forest b.tree) (table b.decisions.rows) (name_in b.decisions.rules) (waits_in b.decisions.waiting) taken

-- they stand for some revision to this list
pub record IsRevising (s : Standing) (net : Net) (b : Beliefs) : Type 0 where
  pub old : Standing
  pub edit : Edit
  pub taken : List (Moment × List ℕ)
  pub list : next_list old edit ≡ s
  pub underway : IsUnderway old edit net b taken

-- what is decided is right for the nodes
abbrev pub IsRight : Standing → Beliefs → ℕ → List ℕ → Decision → Type 0
IsRight s b trigger rule found = (nodes : List Moment) → HasOccurrences nodes (forest b.tree)
    → found ≡ decision_of (outcome s (far_in s.premises) nodes (moment_at (forest b.tree) trigger) rule)

-- the row that was due first keeps what was decided, and waits no more
pub record IsDecided (s : Standing) (old new : Beliefs) (due : Due) : Type 0 where
  pub row : TableRow Pair 8
  pub at : (table_of old.decisions).row due.row ≡ Some row
  pub trigger : row.value.trigger ≡ due.trigger
  pub rule : rule_in old.decisions row ≡ due.rule
  pub before : row.value.decision ≡ due.before
  pub date : ℤ
  pub takes : Takes (dates_in old.decisions.waiting) (dates_in new.decisions.waiting) due.row date
  pub decides : Decides old.decisions.rows new.decisions.rows due.row due.found
  pub tree : new.tree ≡ old.tree
  pub rules : new.decisions.rules ≡ old.decisions.rules
  pub classes : new.decisions.classes ≡ old.decisions.classes
  pub right : IsRight s old due.trigger due.rule due.found
