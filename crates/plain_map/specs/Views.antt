-- When what is read of some nodes is that of a list.
use Rattle.std.specs.Prelude.{◌≡◌, ◌≤◌, map}
use Rattle.tmm_model.specs.Answers.{rows, reports, report_of, size, most_size}
use Rattle.tmm_model.specs.Maps.{built}
use Rattle.tmm_model.specs.Standing.{Standing}
use Rattle.spots.specs.Forest.{Forest}
use Rattle.belief_list.specs.Rows.{row_at, IsListing}
use Rattle.plain_map.specs.declared.view.View.{View}

-- the rows are the believed occurrences in their order, each node of these once, and all else is as
-- the list's map has it
pub record IsViewOf (s : Standing) (f : Forest) (v : View) : Type 0 where
  pub listing : map (row_at f) v.rows.items ≡ rows (built s)
  pub there : IsListing f v.rows.items
  pub broken : map report_of v.reports.items ≡ reports (built s)
  pub counted : v.size ≡ size (built s)
  pub small : size (built s) ≤ most_size
