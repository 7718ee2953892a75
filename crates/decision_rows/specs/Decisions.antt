-- Rows of decisions.
use Rattle.std.specs.Prelude.{◌≡◌, ℕ, false, List, [], ◌∷◌, slice_get, Option, Some}
use Rattle.std.specs.Option.{option_map}
use Rattle.undo_rows.specs.declared.row.Row.{Row}
use Rattle.undo_rows.specs.Tables.{Table, with_row}
use Rattle.undo_rows.specs.Changes.{Logged, present, committed}
use Rattle.decision_rows.specs.declared.row.Pair.{Pair}
use Rattle.decision_rows.specs.declared.row.Decision.{Decision}
use Rattle.decision_rows.specs.declared.row.Decision.TheVariants.{Beyond}

-- six places, with the first six of these classes
abbrev pub classes_in : List ℕ → List (Option ℕ)
classes_in classes = slice_get classes 0 ∷ slice_get classes 1 ∷ slice_get classes 2 ∷ slice_get classes 3 ∷ slice_get classes 4 ∷ slice_get classes 5 ∷ []

-- the heads of a row, by family: its trigger, its rule, and the class of each fact that the rule
-- reads
abbrev pub heads_of : ℕ → ℕ → List (Option ℕ) → List (Option ℕ)
heads_of trigger rule classes = Some trigger ∷ Some rule ∷ classes

-- a row of this pair and these classes, of which nothing was decided
abbrev pub new_row : ℕ → ℕ → List (Option ℕ) → Row Pair 8
new_row trigger rule classes = record {
  heads = heads_of trigger rule classes;
  value = record { trigger = trigger; rule = rule; decision = Beyond };
  gone = false;
}

-- the row with this decision
abbrev pub decided : Decision → Row Pair 8 → Row Pair 8
decided decision r = record r { value = record r.value { decision = decision } }

-- the table with this decision in a row
abbrev pub with_decision : Table Pair 8 → ℕ → Decision → Table Pair 8
with_decision t x decision = record t { row = with_row t.row x (option_map (decided decision) (t.row x)) }

-- the row keeps this decision
pub record Decides (old new : Logged Pair 8) (x : ℕ) (decision : Decision) : Type 0 where
  pub present_is : present new ≡ with_decision (present old) x decision
  pub committed_is : committed new ≡ committed old
