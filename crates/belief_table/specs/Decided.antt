-- Rows of decisions by the names of rules and classes, and which of them wait.
use Rattle.std.specs.Prelude.{◌≡◌, ◌⊎◌, ℕ, ℤ, ◌<◌, ◌≤◌, List, length, Some, None}
use Rattle.tmm_model.specs.Standing.{Standing}
use Rattle.list_theory.proofs.Elements.{In}
use Rattle.undo_rows.specs.declared.row.Row.{Row as TableRow}
use Rattle.undo_rows.specs.Changes.{present, committed}
use Rattle.undo_rows.specs.Tables.{Table}
use Rattle.decision_rows.specs.declared.row.Pair.{Pair}
use Rattle.decision_rows.specs.declared.row.Decision.TheVariants.{Beyond}
use Rattle.occ_tree.specs.Classes.{place_in, HaveMore}
use Rattle.joined.specs.Listed.{IsUnderClasses}
use Rattle.belief_table.specs.declared.state.Decisions.{Decisions}
use Rattle.belief_table.specs.Numbers.{name_in}
use Rattle.belief_table.specs.Waiting.{dates_in}

-- the rows as they are
abbrev pub table_of : Decisions → Table Pair 8
table_of d = present d.rows

-- the name of a row's rule
abbrev pub rule_in : Decisions → TableRow Pair 8 → List ℕ
rule_in d row = name_in d.rules row.value.rule

-- each row is under the classes of what its rule reads, which has a name
pub record AreUnder (s : Standing) (d : Decisions) : Type 0 where
  pub classes : (i : ℕ) (row : TableRow Pair 8) → (table_of d).row i ≡ Some row → IsUnderClasses s (name_in d.rules) (place_in d.classes) row
  pub named : (i : ℕ) (row : TableRow Pair 8) → (table_of d).row i ≡ Some row → row.value.rule < length d.rules

-- the rows are those of some list
abbrev pub AreOfSome : Decisions → Type 0
AreOfSome d = (s : Standing) × AreUnder s d

-- what a rollback leads back to stays: the rows of the last commit, and the numbers of names
pub record KeepsLast (old new : Decisions) : Type 0 where
  pub rows : committed new.rows ≡ committed old.rows
  pub rules : HaveMore old.rules new.rules
  pub classes : HaveMore old.classes new.classes

-- i is a new row at this event, of which nothing is decided, and waits for this date
pub record IsNewRow (event : ℕ) (date : ℤ) (old new : Decisions) (i : ℕ) (row : TableRow Pair 8) : Type 0 where
  pub free : (table_of old).row i ≡ None
  pub there : (table_of new).row i ≡ Some row
  pub at_event : row.value.trigger ≡ event
  pub undecided : row.value.decision ≡ Beyond
  pub waits : dates_in new.waiting i ≡ Some date

-- the row of number i stays, and waits as before
pub record IsSameRow (old new : Decisions) (i : ℕ) : Type 0 where
  pub row : (table_of new).row i ≡ (table_of old).row i
  pub waits : dates_in new.waiting i ≡ dates_in old.waiting i

-- each of these rules has a new row at the event, and no other has; all else stays
pub record AddsRows (rules : List (List ℕ)) (event : ℕ) (date : ℤ) (old new : Decisions) : Type 0 where
  pub each : (i : ℕ) → IsSameRow old new i ⊎ ((row : TableRow Pair 8) × IsNewRow event date old new i row × In (rule_in new row) rules)
  pub all : (rule : List ℕ) → In rule rules → (i : ℕ) × (row : TableRow Pair 8) × IsNewRow event date old new i row × (rule_in new row ≡ rule)
  pub apart : (i j : ℕ) (row other : TableRow Pair 8) → IsNewRow event date old new i row → IsNewRow event date old new j other → rule_in new row ≡ rule_in new other → i ≡ j

-- the row of number i was one at this event, and is gone
pub record IsDropped (event : ℕ) (old new : Decisions) (i : ℕ) : Type 0 where
  pub row : TableRow Pair 8
  pub was : (table_of old).row i ≡ Some row
  pub at_event : row.value.trigger ≡ event
  pub gone : (table_of new).row i ≡ None
  pub rests : dates_in new.waiting i ≡ None

-- all rows at the event are gone, and all else stays
pub record DropsRows (event : ℕ) (old new : Decisions) : Type 0 where
  pub rules : new.rules ≡ old.rules
  pub classes : new.classes ≡ old.classes
  pub each : (i : ℕ) → IsSameRow old new i ⊎ IsDropped event old new i
  pub none : (i : ℕ) (row : TableRow Pair 8) → (table_of new).row i ≡ Some row → row.value.trigger ≡ event → ⊥

-- no list of rows is longer
abbrev pub AreNoLonger : Decisions → Decisions → Type 0
AreNoLonger old new = (f h : ℕ) → length ((table_of new).list f h) ≤ length ((table_of old).list f h)
