use Rattle.std.proofs.Common.{◌≡◌, length, take}
use Rattle.std.specs.Prelude.{vec_capacity}
use Rattle.undo_lists.specs.Rooms.{HaveGrown}
use Rattle.undo_lists.proofs.steps.copy_all.Given as goal

abbrev pub invariant-loop-list : goal.invariant-loop-list
invariant-loop-list g l = record {
  room : vec_capacity l.copies ≡ length l.lists;
  long : length l.copies.items ≡ l.list-index;
  grown : HaveGrown (take l.list-index l.lists) l.copies.items;
}
