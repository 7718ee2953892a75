use Rattle.std.proofs.Common.{◌≡◌, ◌++◌, map, drop}
use Rattle.std.specs.List.{filter_map}
use Rattle.tmm_model.specs.Moments.{moment_of}
use Rattle.spots.specs.Forest.{Forest}
use Rattle.belief_list.specs.Rows.{row_at}
use Rattle.belief_list.specs.Compared.{gone_row}
use Rattle.belief_list.specs.Matches.{AreMatched}
use Rattle.occ_tree.specs.Places.{forest}
use Rattle.belief_list.proofs.changes.gone.Given as goal

abbrev pub invariant-loop-row : goal.invariant-loop-row
invariant-loop-row l =
    (f : Forest) → AreMatched (forest l.tree) f l.others.rows.now l.others.places.now
    → map moment_of l.occs.items ++ filter_map (gone_row (map (row_at f) l.others.rows.now)) (map (row_at (forest l.tree)) (drop l.row-index l.rows))
    ≡ filter_map (gone_row (map (row_at f) l.others.rows.now)) (map (row_at (forest l.tree)) l.rows)
