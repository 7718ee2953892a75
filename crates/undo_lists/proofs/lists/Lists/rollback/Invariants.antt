use Rattle.std.proofs.Common.{◌≡◌, ◌≤◌, length}
use Rattle.undo_lists.specs.Rooms.{items_in, rooms_in}
use Rattle.undo_lists.specs.Changes.{undone, CanUndoAll, committed, rooms}
use Rattle.undo_lists.proofs.lists.Lists.rollback.Given as goal

abbrev pub invariant-loop-change : goal.invariant-loop-change
invariant-loop-change g l = record {
  all : CanUndoAll (rooms_in l.self-inside.lists.items) l.self-inside.log.items (items_in l.self-inside.lists.items);
  leads : undone l.self-inside.log.items (items_in l.self-inside.lists.items) ≡ committed l.fn.self;
  rooms : rooms_in l.self-inside.lists.items ≡ rooms l.fn.self;
  spare : l.fn.self.spare ≤ l.self-inside.log.spare;
}

abbrev pub decreases-loop-change : goal.decreases-loop-change
decreases-loop-change g l = length l.self-inside.log.items
