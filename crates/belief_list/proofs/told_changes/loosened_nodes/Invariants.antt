use Rattle.std.proofs.Common.{◌≡◌, ◌++◌, map, drop}
use Rattle.std.specs.List.{All, filter_map}
use Rattle.spots.specs.Forest.{IsLive, moment_at}
use Rattle.occ_tree.specs.Places.{forest}
use Rattle.belief_list.specs.Told.{loosened_at}
use Rattle.belief_list.proofs.told_changes.loosened_nodes.Given as goal

abbrev pub invariant-loop-d : goal.invariant-loop-d
invariant-loop-d l = record {
  live : All (IsLive (forest l.tree)) l.nodes.items;
  moments : map (moment_at (forest l.tree)) l.nodes.items ++ filter_map (loosened_at (forest l.tree)) (drop l.d-index l.told) ≡ filter_map (loosened_at (forest l.tree)) l.told;
}
