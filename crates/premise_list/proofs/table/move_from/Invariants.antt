use Rattle.std.proofs.Common.{◌≡◌, ◌≤◌, ◌+◌, ◌++◌, length, take, drop, reverse, vec_len, vec_capacity}
use Rattle.premise_list.proofs.table.move_from.Given as goal

abbrev pub invariant-loop-from : goal.invariant-loop-from
invariant-loop-from l = record {
  stay : l.from.items ≡ take (length l.from.items) l.fn.from.items;
  moved : l.to.items ≡ l.fn.to.items ++ reverse (drop (length l.from.items) l.fn.from.items);
  within : l.place ≤ length l.from.items;
  fewer : length l.from.items ≤ length l.fn.from.items;
  room : vec_len l.to + vec_len l.from ≤ vec_capacity l.to + l.place;
  from_capacity : vec_capacity l.from ≡ vec_capacity l.fn.from;
  to_capacity : vec_capacity l.to ≡ vec_capacity l.fn.to;
}

abbrev pub decreases-loop-from : goal.decreases-loop-from
decreases-loop-from l = vec_len l.from
