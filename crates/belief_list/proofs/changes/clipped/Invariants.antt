use Rattle.std.proofs.Common.{◌≡◌, ◌++◌, map, drop}
use Rattle.std.specs.List.{filter_map}
use Rattle.tmm_model.specs.Changes.{clip_pair}
use Rattle.spots.specs.Forest.{Forest}
use Rattle.belief_list.specs.Rows.{row_at}
use Rattle.belief_list.specs.Compared.{clip_row}
use Rattle.belief_list.specs.Matches.{AreMatched}
use Rattle.occ_tree.specs.Places.{forest}
use Rattle.belief_list.proofs.changes.clipped.Given as goal

abbrev pub invariant-loop-row : goal.invariant-loop-row
invariant-loop-row l =
    (f : Forest) → AreMatched (forest l.tree) f l.before.rows.now l.before.places.now
    → map clip_pair l.clips.items ++ filter_map (clip_row (map (row_at f) l.before.rows.now)) (map (row_at (forest l.tree)) (drop l.row-index l.rows))
    ≡ filter_map (clip_row (map (row_at f) l.before.rows.now)) (map (row_at (forest l.tree)) l.rows)
