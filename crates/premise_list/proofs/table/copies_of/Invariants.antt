use Rattle.std.proofs.Common.{◌≡◌, ◌≤◌, length, take, vec_capacity}
use Rattle.premise_list.proofs.table.copies_of.Given as goal

abbrev pub invariant-loop-premise : goal.invariant-loop-premise
invariant-loop-premise l = (l.copies.items ≡ take l.premise-index l.fn.premises) × (length l.fn.premises ≤ vec_capacity l.copies)
