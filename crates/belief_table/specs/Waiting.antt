-- Rows that wait, each for a date.
use Rattle.std.specs.Prelude.{◌≡◌, ◌≢◌, ℕ, ℤ, ◌≤ℤ◌, Bool, List, Option, Some, None, is_some, slice_index_or}
use Rattle.list_theory.proofs.Elements.{In}
use Rattle.belief_table.specs.declared.waiting.Entry.{Entry}

-- the date for which the row of each number waits, none where it does not
abbrev pub Dates : Type 0
Dates = ℕ → Option ℤ

-- the dates of a list, by their places
abbrev pub dates_in : List (Option ℤ) → Dates
dates_in dates i = slice_index_or dates i None

-- whether the row of a number waits
abbrev pub waits_in : List (Option ℤ) → ℕ → Bool
waits_in dates i = is_some (dates_in dates i)

-- each row that waits has an entry with its date
abbrev pub AreQueued : Dates → List Entry → Type 0
AreQueued dates entries = (i : ℕ) (date : ℤ) → dates i ≡ Some date → (e : Entry) × In e entries × (e.row ≡ i) × (e.early.0 ≡ date)

-- row i waits for this date, or no more, and all others wait as before
pub record Puts (old new : Dates) (i : ℕ) (date : Option ℤ) : Type 0 where
  pub at : new i ≡ date
  pub others : (j : ℕ) → j ≢ i → new j ≡ old j

-- row i waited for this date, of all that did none for an earlier one, and waits no more
pub record Takes (old new : Dates) (i : ℕ) (date : ℤ) : Type 0 where
  pub waited : old i ≡ Some date
  pub least : (j : ℕ) (other : ℤ) → old j ≡ Some other → date ≤ℤ other
  pub puts : Puts old new i None
