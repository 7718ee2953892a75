-- What a log leads back to.
use Rattle.std.specs.Prelude.{ℕ, ◌<◌, ◌≤◌, List, [], ◌∷◌, length, map, reverse}
use Rattle.undo_lists.specs.declared.change.Change.{Change}
use Rattle.undo_lists.specs.declared.change.Change.TheVariants.{Inserted, Removed}
use Rattle.undo_lists.specs.Rooms.{ListRoom, items_in, rooms_in, with_item, without_item}

-- the lists as they were before a change
abbrev pub before : {T : Type 0} → Change T → (ℕ → List T) → ℕ → List T
before (Inserted n place) lists = without_item lists n place
before (Removed n place item) lists = with_item lists n place item

-- the lists as they were before all changes of a log, the latest of which is the last
abbrev pub undone : {T : Type 0} → List (Change T) → (ℕ → List T) → ℕ → List T
undone [] lists = lists
undone (change ∷ log) lists = before change (undone log lists)

-- ---- what contracts see of a `Lists`

-- the lists, the changes since the commit, and how many more changes it takes without memory
pub record Logged (T : Type 0) : Type 0 where
  pub lists : List (ListRoom T)
  pub log : List (Change T)
  pub spare : ℕ

-- the lists as they are
abbrev pub present : {T : Type 0} → Logged T → ℕ → List T
present l = items_in l.lists

-- the lists as they were at the last commit
abbrev pub committed : {T : Type 0} → Logged T → ℕ → List T
committed l = undone l.log (items_in l.lists)

-- the number of the list that a change was made to
abbrev pub list_of : {T : Type 0} → Change T → ℕ
list_of (Inserted n place) = n
list_of (Removed n place item) = n

-- the numbers of the lists that changes were made to since the last commit, the latest first
abbrev pub changed : {T : Type 0} → Logged T → List ℕ
changed l = reverse (map list_of l.log)

-- for how many items each list has room
abbrev pub rooms : {T : Type 0} → Logged T → ℕ → ℕ
rooms l = rooms_in l.lists

-- ---- what holds of the fields

-- the change can be undone, where lists have so much room
abbrev pub CanUndo : {T : Type 0} → (ℕ → ℕ) → Change T → (ℕ → List T) → Type 0
CanUndo room (Inserted n place) lists = place < length (lists n)
CanUndo room (Removed n place item) lists = (place ≤ length (lists n)) × (length (lists n) < room n)

-- all changes of the log can be undone, the latest first
abbrev pub CanUndoAll : {T : Type 0} → (ℕ → ℕ) → List (Change T) → (ℕ → List T) → Type 0
CanUndoAll room [] lists = Unit {0}
CanUndoAll room (change ∷ log) lists = CanUndo room change (undone log lists) × CanUndoAll room log lists
