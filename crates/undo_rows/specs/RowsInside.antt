-- What holds of the fields of a `Rows`.
use Rattle.std.specs.Prelude.{◌≡◌, ℕ, ◌*◌, ◌^◌, ◌<◌, List, [], ◌∷◌, length, Option, Some, None, IfSome}
use Rattle.std.specs.Prelude.{eqb, false, true, ◌⊎◌}
use Rattle.std.specs.List.{list_any}
use Rattle.row_links.specs.Lists.{Lists, IsOn, last_or}
use Rattle.row_links.specs.Families.{family_of}
use Rattle.row_links.specs.declared.place.Gap.{Gap}
use Rattle.undo_rows.specs.declared.row.Row.{Row}
use Rattle.undo_rows.specs.declared.change.Change.{Change}
use Rattle.undo_rows.specs.declared.change.Change.TheVariants.{Entered, Linked, Unlinked, Replaced, Removed}
use Rattle.undo_rows.specs.Tables.{Table, AreListed}
use Rattle.undo_rows.specs.Changes.{undone, table_in}

module _ {T : Type 0} where
  -- the change is in the log
  abbrev pub IsLogged : Change T → List (Change T) → Type 0
  IsLogged c [] = ⊥
  IsLogged c (d ∷ log) = (d ≡ c) ⊎ IsLogged c log

module _ {T : Type 0} {F : ℕ} where
  -- the row can be put into the place
  pub record IsOpen (families : List Lists) (t : Table T F) (f : ℕ) (gap : Gap) (x : ℕ) : Type 0 where
    pub head : gap.head < length (family_of families f).lists
    pub row : x < (family_of families f).rows
    pub apart : (h : ℕ) → list_any (eqb x) (t.list f h) ≡ false
    pub before : IfSome gap.before (IsOn (t.list f gap.head))

  -- the change can be undone
  abbrev pub CanUndo : List Lists → Change T → Table T F → Type 0
  CanUndo families (Entered x) t = Unit {0}
  CanUndo families (Linked f h x) t = last_or None (t.list f h) ≡ Some x
  CanUndo families (Unlinked f gap x) t = IsOpen families t f gap x
  CanUndo families (Replaced x value) t = Unit {0}
  CanUndo families (Removed x) t = Unit {0}

  -- all changes of the log can be undone, the latest first
  abbrev pub CanUndoAll : List Lists → List (Change T) → Table T F → Type 0
  CanUndoAll families [] t = Unit {0}
  CanUndoAll families (c ∷ log) t = CanUndo families c (undone log t) × CanUndoAll families log t

  -- the removal of each row that is gone is in the log
  abbrev pub AreLogged : (ℕ → Option (Row T F)) → List (Change T) → Type 0
  AreLogged row log = (x : ℕ) (r : Row T F) → row x ≡ Some r → r.gone ≡ true → IsLogged (Removed x) log

  -- rows are on their lists now and as they were, the log can be undone, and the heads of a row fit
  -- in memory
  pub record IsRows (rows : List (Option (Row T F))) (families : List Lists) (log : List (Change T)) : Type 0 where
    pub now_listed : AreListed (table_in rows families)
    pub then_listed : AreListed (undone log (table_in rows families))
    pub undoes : CanUndoAll families log (table_in rows families)
    pub gone : AreLogged (table_in rows families).row log
    pub few : F * 8 < 2 ^ 63
