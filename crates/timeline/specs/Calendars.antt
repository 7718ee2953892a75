-- What comes on each day, as the code has it.
use Rattle.std.specs.Prelude.{◌≡◌, ℕ, suc, ◌+◌, ◌<◌, ◌≤◌, pos, int_le, Bool, cond, List, [], ◌∷◌, ◌++◌, map, filter, length, sum_by, slice_get}
use Rattle.std.specs.Option.{option_map_or}
use Rattle.std.specs.Global.{Vec}
use Rattle.std.specs.Ordering.{int_eq}
use Rattle.tmm_model.specs.declared.token.TokenRow.{TokenRow}
use Rattle.tmm_model.specs.Answers.{weight, most_size}
use Rattle.tmm_model.specs.Maps.{TimeMap}
use Rattle.tmm_model.specs.Moments.{Moment}
use Rattle.list_theory.proofs.Elements.{In}
use Rattle.timeline.specs.declared.calendar.Calendar.{Calendar}
use Rattle.timeline.specs.declared.row.Held.{Held}
use Rattle.timeline.specs.declared.row.Row.{Row}
use Rattle.timeline.specs.Days.{date, comes_on, before_day}
use Rattle.timeline.specs.Rows.{moment, held_of, AreRowsOf}

-- what comes on a day; nothing where it is none of these days
abbrev pub rows_on : List (Vec Row) → ℕ → List Row
rows_on days i = option_map_or (λ v. v.items) (slice_get days i) []

-- whether it comes on the day of this number or later
abbrev pub comes_from : TimeMap → ℕ → Moment → Bool
comes_from m day x = int_le (pos day) (date m x)

-- all rows are of occurrences of the map
pub record AreAllRows (m : TimeMap) (c : Calendar) : Type 0 where
  pub days : (i : ℕ) → AreRowsOf m (rows_on c.days.items i)
  pub later : AreRowsOf m c.later.items

-- the row alone where the test passes, else none
abbrev pub rows_if : Bool → Row → List Row
rows_if b row = cond b (row ∷ []) []

-- the row has come behind those that were there, on its date
pub record Places (row : Row) (old new : Calendar) : Type 0 where
  pub len : length new.days.items ≡ length old.days.items
  pub days : (i : ℕ) → i < length old.days.items → rows_on new.days.items i ≡ rows_on old.days.items i ++ rows_if (int_eq row.date (pos i)) row
  pub later : new.later.items ≡ old.later.items ++ rows_if (int_le (pos (length old.days.items)) row.date) row
  pub size : new.size ≡ old.size

-- these occurrences have entered behind those that were there, each on its date
pub record Brought (m : TimeMap) (xs : List Moment) (old new : Calendar) : Type 0 where
  pub len : length new.days.items ≡ length old.days.items
  pub days : (i : ℕ) → i < length old.days.items → map moment (rows_on new.days.items i) ≡ map moment (rows_on old.days.items i) ++ filter (comes_on m i) xs
  pub later : map moment new.later.items ≡ map moment old.later.items ++ filter (comes_from m (length old.days.items)) xs
  pub rows : AreAllRows m old → AreAllRows m new
  pub size : new.size ≡ old.size + sum_by (weight m) xs
  pub small : new.size ≤ most_size

-- these are the occurrences that are known before a day, each on its date
pub record IsBefore (m : TimeMap) (day : ℕ) (c : Calendar) : Type 0 where
  pub len : length c.days.items ≡ suc m.list.horizon
  pub days : (i : ℕ) → i < length c.days.items → map moment (rows_on c.days.items i) ≡ filter (comes_on m i) (before_day m day).played
  pub later : map moment c.later.items ≡ filter (comes_from m (length c.days.items)) (before_day m day).played
  pub rows : AreAllRows m c
  pub size : c.size ≡ sum_by (weight m) (before_day m day).played
  pub small : c.size ≤ most_size

-- the code's list has the same tokens as these
pub record AreSame (m : TimeMap) (here : List Held) (holding : List (TokenRow Moment)) : Type 0 where
  pub into : (h : Held) → In h here → In h (map (held_of m) holding)
  pub back : (h : Held) → In h (map (held_of m) holding) → In h here

-- these are the tokens that hold before a day
abbrev pub AreHeldBefore : TimeMap → ℕ → List Held → Type 0
AreHeldBefore m day holding = AreSame m holding (before_day m day).holding
