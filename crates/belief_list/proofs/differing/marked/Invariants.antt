use Rattle.std.proofs.Common.{◌≡◌, ℕ, ◌<◌, true}
use Rattle.std.specs.Prelude.{slice_index_or}
use Rattle.belief_list.specs.Finding.{mark_under}
use Rattle.belief_list.proofs.differing.marked.Given as goal

abbrev pub invariant-loop-x : goal.invariant-loop-x
invariant-loop-x l = (j d : ℕ) → j < l.x-index → mark_under l.marks.items (slice_index_or l.nodes j d) ≡ true
