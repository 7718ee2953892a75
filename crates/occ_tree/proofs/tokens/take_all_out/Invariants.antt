use Rattle.std.proofs.Common.{◌≡◌, ◌+◌, ◌≤◌, drop, length}
use Rattle.undo_lists.specs.Changes.{present, committed}
use Rattle.occ_tree.specs.Standing.{nodes_in, present_rows}
use Rattle.occ_tree.specs.Tokens.{AreTokensBut, HaveRoomFor}
use Rattle.occ_tree.proofs.tokens.take_all_out.Given as goal

abbrev pub invariant-loop-i : goal.invariant-loop-i
invariant-loop-i l = record {
  within : l.i ≤ length l.numbers;
  tokens : AreTokensBut (nodes_in (present_rows l.nodes)) (present l.tokens) (drop l.i l.numbers);
  room : HaveRoomFor (nodes_in (present_rows l.nodes)) l.tokens (drop l.i l.numbers);
  committed : committed l.tokens ≡ committed l.fn.tokens;
  spare : l.fn.tokens.spare + l.i ≤ l.tokens.spare + length l.numbers;
}
