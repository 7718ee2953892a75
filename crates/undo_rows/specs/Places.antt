-- The places of rows.
use Rattle.std.specs.Prelude.{◌≡◌, ◌⊎◌, ℕ, ◌+◌, ◌<◌, ◌≤◌, List, Option, None, IsSome, slice_index_or}
use Rattle.undo_rows.specs.declared.row.Row.{Row}
use Rattle.undo_rows.specs.Changes.{Logged}

module _ {T : Type 0} {F : ℕ} where
  -- no row has a number that is not below this one
  abbrev pub AreBelow : List (Option (Row T F)) → ℕ → Type 0
  AreBelow rows places = (x : ℕ) → places ≤ x → slice_index_or rows x None ≡ None

  -- a row has each number below this one
  abbrev pub AreFull : List (Option (Row T F)) → ℕ → Type 0
  AreFull rows places = (x : ℕ) → x < places → IsSome (slice_index_or rows x None)

  -- each place holds a row, or one that was removed since the last commit
  abbrev pub IsFull : Logged T F → Type 0
  IsFull l = AreFull l.rows l.places

  -- there are as many places as before, or one more where each held a row
  abbrev pub PlacesGrow : Logged T F → Logged T F → Type 0
  PlacesGrow old new = (new.places ≡ old.places) ⊎ ((new.places ≡ old.places + 1) × IsFull old)
