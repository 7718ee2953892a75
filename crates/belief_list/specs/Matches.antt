-- Rows of one forest for the nodes of another.
use Rattle.std.specs.Prelude.{◌≡◌, ℕ, List, map, Option}
use Rattle.std.specs.Option.{option_map}
use Rattle.tmm_model.specs.Moments.{Moment}
use Rattle.spots.specs.Forest.{Forest, IsLive, moment_at}
use Rattle.belief_list.specs.declared.list.BeliefRow.{BeliefRow}
use Rattle.belief_list.specs.Compared.{row_in}
use Rattle.belief_list.specs.Rows.{row_at, IsListing}
use Rattle.belief_list.specs.Tables.{place_in, item_at}

-- at the place is the row of an occurrence, none where it is not listed
abbrev pub IsMatch : Moment → Forest → List BeliefRow → Option ℕ → Type 0
IsMatch k f rows place = option_map (row_at f) (item_at rows place) ≡ row_in (map (row_at f) rows) k

-- **The rows list the other forest, and under the number of each node stands the row of its
-- occurrence.**
pub record AreMatched (f other : Forest) (rows : List BeliefRow) (places : List (Option ℕ)) : Type 0 where
  pub listing : IsListing other rows
  pub same : (x : ℕ) → IsLive f x → IsMatch (moment_at f x) other rows (place_in places x)
