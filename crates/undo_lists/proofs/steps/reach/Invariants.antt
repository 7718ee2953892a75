use Rattle.std.proofs.Common.{◌-◌, ◌+◌, length}
use Rattle.undo_lists.specs.Rooms.{HaveGrown}
use Rattle.undo_lists.proofs.steps.reach.Given as goal

abbrev pub invariant-loop-alloc : goal.invariant-loop-alloc
invariant-loop-alloc g l = HaveGrown l.fn.lists.items l.lists.items

abbrev pub decreases-loop-alloc : goal.decreases-loop-alloc
decreases-loop-alloc g l = l.number + 1 - length l.lists.items
