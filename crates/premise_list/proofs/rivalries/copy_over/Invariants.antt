use Rattle.std.proofs.Common.{◌≡◌, take, vec_capacity}
use Rattle.premise_list.proofs.rivalries.copy_over.Given as goal

abbrev pub invariant-loop-pair : goal.invariant-loop-pair
invariant-loop-pair l = record {
  items : l.list.items ≡ take l.pair-index l.pairs;
  room : vec_capacity l.list ≡ vec_capacity l.initial.list;
}
