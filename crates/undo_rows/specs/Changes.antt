-- What a log leads back to.
use Rattle.std.specs.Prelude.{◌≡◌, ℕ, false, List, [], ◌∷◌, Option, None, slice_index_or}
use Rattle.std.specs.Option.{option_map}
use Rattle.row_links.specs.Lists.{Lists, without, put_after}
use Rattle.row_links.specs.Families.{list_in}
use Rattle.undo_rows.specs.declared.row.Row.{Row}
use Rattle.undo_rows.specs.declared.change.Change.{Change}
use Rattle.undo_rows.specs.declared.change.Change.TheVariants.{Entered, Linked, Unlinked, Replaced, Removed}
use Rattle.undo_rows.specs.Tables.{Table, live_table, with_row, with_list, with_value}

-- what contracts see of a `Rows`: the rows by number, those removed since the commit among them,
-- the families of lists, how many places there are for rows, the changes since the commit, and how
-- many more it takes without memory
pub record Logged (T : Type 0) (F : ℕ) : Type 0 where
  pub rows : List (Option (Row T F))
  pub families : List Lists
  pub places : ℕ
  pub log : List (Change T)
  pub spare : ℕ

module _ {T : Type 0} {F : ℕ} where
  -- the table as it was before a change
  abbrev pub before : Change T → Table T F → Table T F
  before (Entered x) t = record t { row = with_row t.row x None }
  before (Linked f h x) t = record t { list = with_list t.list f h (without x (t.list f h)) }
  before (Unlinked f gap x) t = record t { list = with_list t.list f gap.head (put_after gap.before x (t.list f gap.head)) }
  before (Replaced x value) t = with_value t x value
  before (Removed x) t = record t { row = with_row t.row x (option_map (λ (r : Row T F). record r { gone = false }) (t.row x)) }

  -- the table as it was before all changes of a log, the latest of which is the last
  abbrev pub undone : List (Change T) → Table T F → Table T F
  undone [] t = t
  undone (c ∷ log) t = before c (undone log t)

  -- the rows and lists
  abbrev pub table_in : List (Option (Row T F)) → List Lists → Table T F
  table_in rows families = record { row = λ x. slice_index_or rows x None; list = λ f h. list_in families f h }

  -- the table as it is
  abbrev pub present : Logged T F → Table T F
  present l = live_table (table_in l.rows l.families)

  -- the table as it was at the last commit
  abbrev pub committed : Logged T F → Table T F
  committed l = live_table (undone l.log (table_in l.rows l.families))

  -- both tables are the same
  pub record Stays (old new : Logged T F) : Type 0 where
    pub present : present new ≡ present old
    pub committed : committed new ≡ committed old
