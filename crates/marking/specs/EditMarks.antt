-- What an edit has let wait from some date on: all rows of a class, or all whose rules read what
-- contradicts a fact. Another token of such a class, or of such a fact, has nothing to mark.
use Rattle.std.specs.Prelude.{◌≡◌, ◌≢◌, ℕ, ℤ, ◌+◌, ◌<◌, ◌≤ℤ◌, ◌<ℤ◌, int_lt, cond, List, [], Option, Some, None, IfSome}
use Rattle.std.specs.Map.{lookup}
use Rattle.tmm_model.specs.Points.{same_name}
use Rattle.undo_rows.specs.declared.row.Row.{Row as TableRow}
use Rattle.undo_rows.specs.Tables.{head_of}
use Rattle.decision_rows.specs.declared.row.Pair.{Pair}
use Rattle.belief_table.specs.Waiting.{Dates, dates_in, Puts}

-- the date from which on all rows of the class of each number wait, none where they need not; facts
-- with the date from which on all rows wait whose rules read what contradicts them; and the latest
-- date of a row that was decided
pub record Marked : Type 0 where
  pub classes : List (Option ℤ)
  pub facts : List (List ℕ × ℤ)
  pub decided : Option ℤ

-- the date of a fact, none where it has none
abbrev pub date_of : List (List ℕ × ℤ) → List ℕ → Option ℤ
date_of facts fact = lookup (same_name fact) facts

-- nothing is marked, and nothing was decided
abbrev pub no_marks : Marked
no_marks = record { classes = []; facts = []; decided = None }

-- the later of the latest date so far and one more
abbrev pub later_of : Option ℤ → ℤ → Option ℤ
later_of None date = Some date
later_of (Some last) date = Some (cond (int_lt last date) date last)

-- the date is later than the latest that was decided, if something was
abbrev pub IsLater : Option ℤ → ℤ → Type 0
IsLater latest date = IfSome latest (λ last. last <ℤ date)

-- the mark is from this date on, or from an earlier one, and nothing was decided that is as late
abbrev pub IsFrom : Option ℤ → Option ℤ → ℤ → Type 0
IsFrom mark decided from = ((date : ℤ) × (mark ≡ Some date) × (date ≤ℤ from)) × IsLater decided from

-- all rows of the class wait from this date on
abbrev pub CoversFrom : Marked → ℕ → ℤ → Type 0
CoversFrom m class from = IsFrom (dates_in m.classes class) m.decided from

-- all rows wait from this date on whose rules read what contradicts the fact
abbrev pub CoversFact : Marked → List ℕ → ℤ → Type 0
CoversFact m fact from = IsFrom (date_of m.facts fact) m.decided from

-- the class is marked from this date on, and all else stays
pub record MarksFrom (old new : Marked) (class : ℕ) (from : ℤ) : Type 0 where
  pub puts : Puts (dates_in old.classes) (dates_in new.classes) class (Some from)
  pub stay : new ≡ record old { classes = new.classes }

-- the fact is marked from this date on, and all else stays
pub record MarksFact (old new : Marked) (fact : List ℕ) (from : ℤ) : Type 0 where
  pub at : date_of new.facts fact ≡ Some from
  pub others : (other : List ℕ) → other ≢ fact → date_of new.facts other ≡ date_of old.facts other
  pub stay : new ≡ record old { facts = new.facts }

-- ---- rows

-- the row is one of a rule that reads this class, by its number
abbrev pub ReadsClass : TableRow Pair 8 → ℕ → Type 0
ReadsClass r class = (place : ℕ) × (place < 6) × (head_of r (place + 2) ≡ Some class)

-- **All rows that read what is marked wait for the dates of their events**, if these are no earlier
-- than the mark, and later than all that was decided.
abbrev pub AllWait : {K : Type 0} → (TableRow Pair 8 → K → Type 0) → (ℕ → ℤ) → (ℕ → Option (TableRow Pair 8)) → Dates → (K → Option ℤ) → Option ℤ → Type 0
AllWait {K = K} Reads early_of row_at waits marks decided =
    (key : K) (from : ℤ) (i : ℕ) (r : TableRow Pair 8) → marks key ≡ Some from → row_at i ≡ Some r → Reads r key
    → from ≤ℤ early_of r.value.trigger → IsLater decided (early_of r.value.trigger) → waits i ≡ Some (early_of r.value.trigger)
