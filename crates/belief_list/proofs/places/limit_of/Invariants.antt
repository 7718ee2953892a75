use Rattle.std.proofs.Common.{ℕ, ◌<◌}
use Rattle.std.specs.Prelude.{slice_index_or}
use Rattle.belief_list.proofs.places.limit_of.Given as goal

abbrev pub invariant-loop-x : goal.invariant-loop-x
invariant-loop-x l = (j d : ℕ) → j < l.x-index → slice_index_or l.numbers j d < l.limit
