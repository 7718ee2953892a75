use Rattle.std.proofs.Common.{◌≡◌, ℕ, false, length, slice_index_or}
use Rattle.dist_repair.proofs.held.Held.none.Given as goal

abbrev pub invariant-loop : goal.invariant-loop
invariant-loop l = (length l.marks.items ≡ l.counter) × ((p : ℕ) → slice_index_or l.marks.items p false ≡ false)
