use Rattle.std.proofs.Common.{◌≡◌, ℕ, ◌<◌, ◌≤◌}
use Rattle.std.specs.Prelude.{Option, IfSome, drop, length, slice_index_or}
use Rattle.name_lists.specs.Lists.{list_of}
use Rattle.occ_tree.specs.Ranks.{nodes_of}
use Rattle.spots.specs.Forest.{IsLive}
use Rattle.occ_tree.specs.Places.{forest}
use Rattle.supports.specs.Behind.{AreBehind, IsClip}
use Rattle.supports.proofs.all_clips.clips.Given as goal

abbrev pub invariant-loop-i : goal.invariant-loop-i
invariant-loop-i l = record {
  count : length l.clips.items ≡ length l.ranked;
  live : (j : ℕ) (d : Option ℕ) → l.i ≤ j → j < length l.ranked → IfSome (slice_index_or l.clips.items j d) (IsLive (forest l.tree));
  clip : (j : ℕ) (d : Option ℕ) → l.i ≤ j → j < length l.ranked → IsClip l.standing.present l.net.present (forest l.tree) (slice_index_or (nodes_of l.ranked) j 0) (slice_index_or l.clips.items j d);
  behind : AreBehind (forest l.tree) (drop l.i (nodes_of l.ranked)) (list_of l.behind);
}
