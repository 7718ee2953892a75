use Rattle.std.proofs.Common.{◌≡◌, take, length, vec_capacity, vec_len}
use Rattle.belief_list.specs.Heads.{told_in}
use Rattle.belief_list.proofs.told_changes.told_of_heads.Given as goal

abbrev pub invariant-loop-h : goal.invariant-loop-h
invariant-loop-h l = record {
  capacity : vec_capacity l.told ≡ length l.headed;
  long : vec_len l.told ≡ l.h-index;
  told : l.told.items ≡ told_in (take l.h-index l.headed);
}
