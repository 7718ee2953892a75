-- Rows that are let wait, for the dates of their events.
use Rattle.std.specs.Prelude.{◌≡◌, ◌⊎◌, ◌↔◌, ℕ, ℤ, ◌≤ℤ◌, true, Some, is_some}
use Rattle.row_links.specs.Lists.{IsOn}
use Rattle.spots.specs.Forest.{IsLive}
use Rattle.undo_rows.specs.declared.row.Row.{Row as TableRow}
use Rattle.undo_rows.specs.Tables.{Table}
use Rattle.decision_rows.specs.declared.row.Pair.{Pair}
use Rattle.occ_tree.specs.Places.{forest}
use Rattle.occ_tree.specs.Standing.{Kept, State, early}
use Rattle.belief_table.specs.Waiting.{Dates}

-- the event of each row is a node
abbrev pub HaveEvents : Kept → Table Pair 8 → Type 0
HaveEvents k t = (i : ℕ) (row : TableRow Pair 8) → t.row i ≡ Some row → IsLive (forest k) row.value.trigger

-- a row is on the list of its event, and on that of no other
abbrev pub AreByEvent : Table Pair 8 → Type 0
AreByEvent t = (i x : ℕ) (row : TableRow Pair 8) → t.row i ≡ Some row → IsOn (t.list 0 x) i ↔ (row.value.trigger ≡ x)

-- the event of the row is no earlier than the date
abbrev pub IsAsLate : State → ℤ → TableRow Pair 8 → Type 0
IsAsLate s from row = from ≤ℤ early s row.value.trigger

-- the row waits for the date of its event
abbrev pub WaitsAt : State → Dates → ℕ → TableRow Pair 8 → Type 0
WaitsAt s dates i row = dates i ≡ Some (early s row.value.trigger)

-- these rows wait, and all others wait as before
pub record Marks (s : State) (t : Table Pair 8) (P : ℕ → TableRow Pair 8 → Type 0) (old new : Dates) : Type 0 where
  pub all : (i : ℕ) (row : TableRow Pair 8) → t.row i ≡ Some row → P i row → WaitsAt s new i row
  pub only : (i : ℕ) → (new i ≡ old i) ⊎ ((row : TableRow Pair 8) × (t.row i ≡ Some row) × P i row × WaitsAt s new i row)

-- Rows have been looked at: those that wait newly are of the first kind, and those that do not wait
-- are of the second.
pub record Wakes (s : State) (t : Table Pair 8) (P R : ℕ → TableRow Pair 8 → Type 0) (old new : Dates) : Type 0 where
  pub only : (i : ℕ) → (new i ≡ old i) ⊎ ((row : TableRow Pair 8) × (t.row i ≡ Some row) × P i row × WaitsAt s new i row)
  pub rests : (i : ℕ) (row : TableRow Pair 8) → t.row i ≡ Some row → (is_some (new i) ≡ true) ⊎ R i row

-- Some rows have been looked at: those that wait newly are at events of the first kind, and others of
-- them are at events of the second.
abbrev pub WakesOf : State → Table Pair 8 → (ℕ → Type 0) → (ℕ → Type 0) → (ℕ → Type 0) → Dates → Dates → Type 0
WakesOf s t M R are = Wakes s t (λ i row. are i × M row.value.trigger) (λ i row. are i → R row.value.trigger)
