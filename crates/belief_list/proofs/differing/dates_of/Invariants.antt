use Rattle.std.proofs.Common.{◌≡◌, ℕ, ◌<◌, ◌≤◌, length, vec_capacity, vec_len}
use Rattle.std.specs.Prelude.{slice_index_or}
use Rattle.belief_list.specs.Finding.{HasDate}
use Rattle.belief_list.proofs.differing.dates_of.Given as goal

abbrev pub invariant-loop-x : goal.invariant-loop-x
invariant-loop-x l = record {
  capacity : vec_capacity l.dates ≡ length l.nodes;
  few : vec_len l.dates ≤ l.x-index;
  done : (j d : ℕ) → j < l.x-index → HasDate l.tree l.dates.items (slice_index_or l.nodes j d);
}
