use Rattle.std.proofs.Common.{◌≡◌, take, length, vec_capacity, vec_len}
use Rattle.std.specs.List.{All}
use Rattle.occ_tree.specs.Ranks.{IsRanked, nodes_of}
use Rattle.occ_tree.specs.Places.{forest}
use Rattle.occ_tree.proofs.ranks.ranks.Given as goal

abbrev pub invariant-loop-node : goal.invariant-loop-node
invariant-loop-node l = record {
  capacity : vec_capacity l.ranked ≡ length l.nodes;
  long : vec_len l.ranked ≡ l.node-index;
  nodes : nodes_of l.ranked.items ≡ take l.node-index l.nodes;
  ranked : All (IsRanked l.order.net.now.present (forest l.order.tree.now)) l.ranked.items;
}
