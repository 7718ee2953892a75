use Rattle.std.proofs.Common.{◌≡◌, ◌+◌, ◌≤◌, drop, length}
use Rattle.undo_lists.specs.Changes.{present, committed}
use Rattle.occ_tree.specs.Standing.{nodes_in, present_rows}
use Rattle.occ_tree.specs.Tokens.{AreTokensBut, HaveRoomFor}
use Rattle.occ_tree.proofs.tokens.put_all_in.Given as goal

abbrev pub invariant-loop-x : goal.invariant-loop-x
invariant-loop-x l = record {
  tokens : AreTokensBut (nodes_in (present_rows l.nodes)) (present l.tokens) (drop l.x-index l.numbers);
  room : HaveRoomFor (nodes_in (present_rows l.nodes)) l.tokens (drop l.x-index l.numbers);
  committed : committed l.tokens ≡ committed l.fn.tokens;
  spare : length l.numbers ≤ l.tokens.spare + l.x-index;
}
