use Rattle.std.proofs.Common.{◌≡◌, map, take, length, vec_capacity, vec_len}
use Rattle.occ_tree.specs.Ranks.{nodes_of}
use Rattle.belief_list.specs.KeptRows.{row_under}
use Rattle.belief_list.specs.Told.{clip_of}
use Rattle.belief_list.proofs.by_number.clips_kept.Given as goal

abbrev pub invariant-loop-r : goal.invariant-loop-r
invariant-loop-r l = record {
  capacity : vec_capacity l.clips ≡ length l.ranked;
  long : vec_len l.clips ≡ l.r-index;
  clips : l.clips.items ≡ map (λ x. clip_of (row_under l.kept x)) (nodes_of (take l.r-index l.ranked));
}
