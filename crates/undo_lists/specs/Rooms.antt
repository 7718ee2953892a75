-- Lists by number.
use Rattle.std.specs.Prelude.{◌≡◌, ℕ, cond, eqb, ◌≤◌, List, [], slice_index_or, insert, remove}

-- the items of a list, and for how many there is room
pub record ListRoom (T : Type 0) : Type 0 where
  pub items : List T
  pub room : ℕ

-- the list of a number, without items and room where there is none
abbrev pub list_at : {T : Type 0} → List (ListRoom T) → ℕ → ListRoom T
list_at lists n = slice_index_or lists n (record { items = []; room = 0 })

-- the items of each list
abbrev pub items_in : {T : Type 0} → List (ListRoom T) → ℕ → List T
items_in lists n = (list_at lists n).items

-- for how many items each list has room
abbrev pub rooms_in : {T : Type 0} → List (ListRoom T) → ℕ → ℕ
rooms_in lists n = (list_at lists n).room

-- the list of the number has these items, and each other has its own
abbrev pub with_list : {T : Type 0} → (ℕ → List T) → ℕ → List T → ℕ → List T
with_list lists n items m = cond (eqb m n) items (lists m)

-- with an item at a place of a list, before what stood there
abbrev pub with_item : {T : Type 0} → (ℕ → List T) → ℕ → ℕ → T → ℕ → List T
with_item lists n place item = with_list lists n (insert (lists n) place item)

-- without the item at a place of a list
abbrev pub without_item : {T : Type 0} → (ℕ → List T) → ℕ → ℕ → ℕ → List T
without_item lists n place = with_list lists n (remove (lists n) place)

-- there may be more room, and the items stay
pub record HaveGrown {T : Type 0} (old new : List (ListRoom T)) : Type 0 where
  pub items : items_in new ≡ items_in old
  pub rooms : (n : ℕ) → rooms_in old n ≤ rooms_in new n
