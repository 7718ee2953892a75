use Rattle.std.proofs.Common.{◌≡◌, ◌≤◌, ◌+◌, length, vec_len, vec_capacity}
use Rattle.premise_list.specs.Past.{Fits, restored}
use Rattle.premise_list.proofs.table.put_each.Given as goal

abbrev pub invariant-loop-place : goal.invariant-loop-place
invariant-loop-place l = record {
  same : restored l.taken.items l.premises.items ≡ restored l.fn.taken.items l.fn.premises.items;
  fits : Fits l.taken.items (length l.premises.items);
  room : vec_len l.premises + length l.taken.items ≤ vec_capacity l.premises;
}

abbrev pub decreases-loop-place : goal.decreases-loop-place
decreases-loop-place l = vec_len l.taken
