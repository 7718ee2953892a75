use Rattle.std.proofs.Common.{◌≡◌, ◌++◌, drop}
use Rattle.std.specs.List.{All, filter_map}
use Rattle.spots.specs.Forest.{IsLive}
use Rattle.occ_tree.specs.Places.{forest}
use Rattle.belief_list.specs.Told.{clipped_at, pairs_of}
use Rattle.belief_list.proofs.told_changes.clip_nodes.Given as goal

abbrev pub invariant-loop-d : goal.invariant-loop-d
invariant-loop-d l = record {
  live : All (λ p. IsLive (forest l.tree) p.0 × IsLive (forest l.tree) p.1) l.pairs.items;
  moments : pairs_of (forest l.tree) l.pairs.items ++ filter_map (clipped_at (forest l.tree)) (drop l.d-index l.told) ≡ filter_map (clipped_at (forest l.tree)) l.told;
}
