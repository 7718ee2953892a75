-- Rows and the lists on which they are.
use Rattle.std.specs.Prelude.{◌≡◌, ℕ, Bool, false, cond, eqb, ◌&&◌, ◌↔◌, List, [], ◌∷◌, ◌++◌, Option, Some, None, slice_index_or}
use Rattle.std.specs.Option.{option_map}
use Rattle.row_links.specs.Lists.{IsOn, AreOnce, without}
use Rattle.undo_rows.specs.declared.row.Row.{Row}

-- the row of each number, and the list of each head in each family
pub record Table (T : Type 0) (F : ℕ) : Type 0 where
  pub row : ℕ → Option (Row T F)
  pub list : ℕ → ℕ → List ℕ

-- the head has this list in the family
abbrev pub with_list : (ℕ → ℕ → List ℕ) → ℕ → ℕ → List ℕ → ℕ → ℕ → List ℕ
with_list list f h rows g k = cond (eqb g f && eqb k h) rows (list g k)

-- the head in a family, none where there is none
abbrev pub head_in : List (Option ℕ) → ℕ → Option ℕ
head_in heads f = slice_index_or heads f None

-- whether the head is this one
abbrev pub is_head : Option ℕ → ℕ → Bool
is_head None h = false
is_head (Some k) h = eqb k h

module _ {T : Type 0} {F : ℕ} where
  -- the head under which a row stands in a family, none where it stands on no list of it
  abbrev pub head_of : Row T F → ℕ → Option ℕ
  head_of r f = head_in r.heads f

  -- the row, if it was not removed
  abbrev pub live : Option (Row T F) → Option (Row T F)
  live None = None
  live (Some r) = cond r.gone None (Some r)

  -- the rows that were not removed
  abbrev pub live_table : Table T F → Table T F
  live_table t = record t { row = λ x. live (t.row x) }

  -- the row has this number, or none has it
  abbrev pub with_row : (ℕ → Option (Row T F)) → ℕ → Option (Row T F) → ℕ → Option (Row T F)
  with_row row x r y = cond (eqb y x) r (row y)

  -- the row stands under the head
  abbrev pub StandsUnder : Option (Row T F) → ℕ → ℕ → Type 0
  StandsUnder row f h = (r : Row T F) × (row ≡ Some r) × (head_of r f ≡ Some h)

  -- each row is on the lists of its heads, once, and on no other
  pub record AreListed (t : Table T F) : Type 0 where
    pub each : (x f h : ℕ) → IsOn (t.list f h) x ↔ StandsUnder (live (t.row x)) f h
    pub once : (f h : ℕ) → AreOnce (t.list f h)

  -- ---- edits

  -- a row under these heads that keeps this value
  abbrev pub new_row : List (Option ℕ) → T → Row T F
  new_row heads value = record { heads = heads; value = value; gone = false }

  -- the table with a row more, last on each of its lists
  abbrev pub with_new : Table T F → ℕ → Row T F → Table T F
  with_new t x r = record {
    row = with_row t.row x (Some r);
    list = λ f h. cond (is_head (head_of r f) h) (t.list f h ++ x ∷ []) (t.list f h);
  }

  -- the table without a row
  abbrev pub without_row : Table T F → ℕ → Table T F
  without_row t x = record {
    row = with_row t.row x None;
    list = λ f h. without x (t.list f h);
  }

  -- the table with this value in a row
  abbrev pub with_value : Table T F → ℕ → T → Table T F
  with_value t x value = record t { row = with_row t.row x (option_map (λ (r : Row T F). record r { value = value }) (t.row x)) }
