use Rattle.std.proofs.Common.{◌≡◌, ◌≤◌, ◌+◌, ◌++◌, length}
use Rattle.std.specs.Prelude.{vec_capacity}
use Rattle.undo_lists.proofs.Changed.{lists_of}
use Rattle.undo_lists.proofs.lists.Lists.changed.Given as goal

abbrev pub invariant-loop-change : goal.invariant-loop-change
invariant-loop-change g l = record {
  room : length l.numbers.items + length l.log.items ≤ vec_capacity l.numbers;
  told : l.numbers.items ++ lists_of l.log.items ≡ lists_of l.self.log;
}

abbrev pub decreases-loop-change : goal.decreases-loop-change
decreases-loop-change g l = length l.log.items
