-- What a copy of the decisions has.
use Rattle.std.specs.Prelude.{◌≡◌}
use Rattle.undo_rows.specs.Changes.{Stays}
use Rattle.belief_table.specs.declared.state.Decisions.{Decisions}

-- The rows are the same, and so were those of the last commit. Rules and classes have the same
-- numbers, and the same rows wait for the same dates.
pub record IsCopy (old new : Decisions) : Type 0 where
  pub rows : Stays old.rows new.rows
  pub rules : new.rules ≡ old.rules
  pub classes : new.classes ≡ old.classes
  pub waiting : new.waiting ≡ old.waiting
