use Rattle.std.proofs.Common.{◌≡◌, ◌+◌, length, take}
use Rattle.std.specs.Prelude.{vec_len, vec_capacity}
use Rattle.undo_lists.proofs.item_list.push_copies.Given as goal

abbrev pub invariant-loop : goal.invariant-loop
invariant-loop g l = record {
  kept : take (vec_len l.fn.places) l.places.items ≡ l.fn.places.items;
  long : length l.places.items ≡ length l.fn.places.items + l.counter;
  capacity : vec_capacity l.places ≡ vec_capacity l.fn.places;
}
