use Rattle.std.proofs.Common.{◌≡◌, ◌≤◌, ◌++◌, length, drop, vec_capacity, vec_len}
use Rattle.std.specs.Prelude.{filter}
use Rattle.std.specs.List.{All}
use Rattle.occ_tree.specs.Places.{forest}
use Rattle.occ_tree.specs.Standing.{present}
use Rattle.belief_list.specs.Heads.{told_in, IsHeaded}
use Rattle.belief_list.specs.Told.{is_told}
use Rattle.belief_list.proofs.told_changes.heads_of.Given as goal

abbrev pub invariant-loop-d : goal.invariant-loop-d
invariant-loop-d l = record {
  capacity : vec_capacity l.headed ≡ length l.differences;
  few : vec_len l.headed ≤ l.d-index;
  same : told_in l.headed.items ++ filter (is_told (forest l.tree)) (drop l.d-index l.differences) ≡ filter (is_told (forest l.tree)) l.differences;
  headed : All (IsHeaded (present l.tree)) l.headed.items;
}
