-- What is kept of nodes counts of the size of the map.
use Rattle.std.specs.Prelude.{ℕ, Option, Some, None}
use Rattle.belief_list.specs.declared.kept_rows.KeptRow.{KeptRow}

-- what the node counts of which this is kept; where none is, nothing counts
abbrev pub weight_kept : Option KeptRow → ℕ
weight_kept None = 0
weight_kept (Some r) = r.weight
