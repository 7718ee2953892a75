use Rattle.std.proofs.Common.{◌≡◌, map, take}
use Rattle.tmm_model.specs.Moments.{moment_of}
use Rattle.spots.specs.Forest.{moment_at}
use Rattle.occ_tree.specs.Places.{forest}
use Rattle.belief_list.proofs.of_rows.occurrences.Given as goal

abbrev pub invariant-loop-row : goal.invariant-loop-row
invariant-loop-row l = map moment_of l.occs.items ≡ map (λ r. moment_at (forest l.tree) r.node) (take l.row-index l.rows)
