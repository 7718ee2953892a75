use Rattle.std.proofs.Common.{◌≡◌, ℕ, length, slice_index_or, None}
use Rattle.dist_repair.proofs.ends.Ends.none.Given as goal

abbrev pub invariant-loop : goal.invariant-loop
invariant-loop l = (length l.last.items ≡ l.counter) × ((p : ℕ) → slice_index_or l.last.items p None ≡ None)
