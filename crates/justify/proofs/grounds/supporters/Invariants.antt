use Rattle.std.proofs.Common.{◌≡◌, ◌≤◌, map, take, length}
use Rattle.std.specs.List.{All, filter_map}
use Rattle.tmm_model.specs.Maps.{built}
use Rattle.spots.specs.Forest.{IsLive, moment_at}
use Rattle.occ_tree.specs.Places.{forest}
use Rattle.justify.specs.Grounds.{supporters_for}
use Rattle.justify.proofs.grounds.supporters.Given as goal

abbrev pub invariant-loop-fact : goal.invariant-loop-fact
invariant-loop-fact l = record {
  count : length l.found.items ≤ l.fact-index;
  live : All (IsLive (forest l.map.tree.now)) l.found.items;
  first : map (moment_at (forest l.map.tree.now)) l.found.items ≡ filter_map (λ k. k) (supporters_for (built l.map.standing.now.present) (moment_at (forest l.map.tree.now) l.event) (take l.fact-index l.facts));
}
