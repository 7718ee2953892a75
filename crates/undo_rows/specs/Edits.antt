-- What edits do.
use Rattle.std.specs.Prelude.{◌≡◌, ℕ, None}
use Rattle.undo_rows.specs.declared.row.Row.{Row}
use Rattle.undo_rows.specs.Tables.{with_new, without_row, with_value}
use Rattle.undo_rows.specs.Changes.{Logged, present, committed}

module _ {T : Type 0} {F : ℕ} where
  -- the row is new under a number that no row has or had at the last commit, and is last on its
  -- lists
  pub record Adds (old new : Logged T F) (x : ℕ) (r : Row T F) : Type 0 where
    pub free : (present old).row x ≡ None
    pub was_free : (committed old).row x ≡ None
    pub present_is : present new ≡ with_new (present old) x r
    pub committed_is : committed new ≡ committed old

  -- the row is gone, and off all its lists
  pub record Removes (old new : Logged T F) (x : ℕ) : Type 0 where
    pub present_is : present new ≡ without_row (present old) x
    pub committed_is : committed new ≡ committed old

  -- the row keeps this value
  pub record Sets (old new : Logged T F) (x : ℕ) (value : T) : Type 0 where
    pub present_is : present new ≡ with_value (present old) x value
    pub committed_is : committed new ≡ committed old
