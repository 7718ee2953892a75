use Rattle.std.proofs.Common.{◌≡◌, length}
use Rattle.dist_repair.proofs.row.Row.none.Given as goal

abbrev pub invariant-loop : goal.invariant-loop
invariant-loop l = length l.cells.items ≡ l.counter
