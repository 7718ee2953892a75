use Rattle.std.proofs.Common.{take}
use Rattle.occ_tree.specs.Marks.{KeepsMarks, AreListsMarked}
use Rattle.occ_tree.specs.Standing.{nodes_in, present_rows}
use Rattle.occ_tree.proofs.touched.mark_lists.Given as goal

abbrev pub invariant-loop-x : goal.invariant-loop-x
invariant-loop-x l = record {
  keeps : KeepsMarks l.fn.marks.items l.marks.items;
  marked : AreListsMarked (nodes_in (present_rows l.nodes)) l.marks.items (take l.x-index l.numbers);
}
