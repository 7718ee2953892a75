-- Changes of lists that are logged.
use Rattle.std.specs.Prelude.{◌≡◌, ℕ, ◌<◌, ◌≤◌, List, ◌++◌, length, Option, Some}
use Rattle.row_links.specs.Lists.{Lists}
use Rattle.row_links.specs.Families.{family_of}
use Rattle.undo_rows.specs.declared.row.Row.{Row}
use Rattle.undo_rows.specs.declared.change.Change.{Change}
use Rattle.undo_rows.specs.Tables.{head_in}
use Rattle.undo_rows.specs.Changes.{undone, table_in}
use Rattle.undo_rows.specs.RowsInside.{CanUndoAll}

-- there are at least as many rows and heads in each family
pub record AreAsMany (old new : List Lists) : Type 0 where
  pub rows : (f : ℕ) → (family_of old f).rows ≤ (family_of new f).rows
  pub heads : (f : ℕ) → length (family_of old f).lists ≤ length (family_of new f).lists

-- there are the row x and the heads in their families
abbrev pub HasRoom : List Lists → ℕ → List (Option ℕ) → Type 0
HasRoom families x heads = (f h : ℕ) → head_in heads f ≡ Some h → (h < length (family_of families f).lists) × (x < (family_of families f).rows)

module _ {T : Type 0} (F : ℕ) where
  -- what is logged leads back from the new lists to what the old ones led to
  pub record LeadsBack (old new : List Lists) (log_before log_after : List (Change T)) : Type 0 where
    pub as_many : AreAsMany old new
    pub longer : (more : List (Change T)) × (log_after ≡ log_before ++ more)
    pub committed : (rows : List (Option (Row T F))) → undone log_after (table_in rows new) ≡ undone log_before (table_in rows old)
    pub undoes : (rows : List (Option (Row T F))) → CanUndoAll old log_before (table_in rows old) → CanUndoAll new log_after (table_in rows new)
