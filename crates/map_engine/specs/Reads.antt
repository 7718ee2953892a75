-- What is read of some nodes, and when that is what the map of a list has.
use Rattle.std.specs.Prelude.{◌≡◌, ℕ, ◌≤◌, Option}
use Rattle.tmm_model.specs.Answers.{reports, size, most_size}
use Rattle.tmm_model.specs.Maps.{built}
use Rattle.tmm_model.specs.Standing.{Standing}
use Rattle.spots.specs.Forest.{Forest}
use Rattle.belief_list.specs.declared.kept_rows.KeptRow.{KeptRow}
use Rattle.belief_list.specs.KeptRows.{row_under, AreRowsOf}
use Rattle.protections.specs.Found.{Found, AreFound, found_in}
use Rattle.map_engine.specs.declared.kept_view.KeptView.{KeptView}

-- the size, what is kept of each node under its number, and the broken protections under their
-- names
pub record Read : Type 0 where
  pub size : ℕ
  pub rows : ℕ → Option KeptRow
  pub broken : Found

-- **All is as the map of the list has it**, each node under its number.
pub record IsReadOf (s : Standing) (f : Forest) (r : Read) : Type 0 where
  pub rows : AreRowsOf s f r.rows
  pub broken : AreFound (reports (built s)) r.broken
  pub counted : r.size ≡ size (built s)
  pub small : size (built s) ≤ most_size

-- what is read of the last commit
abbrev pub read_of : KeptView → Read
read_of v = record { size = v.size; rows = row_under v.rows.items; broken = found_in v.broken }
