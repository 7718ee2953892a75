use Rattle.std.proofs.Common.{take}
use Rattle.occ_tree.specs.Marks.{KeepsMarks, AreMarked}
use Rattle.occ_tree.proofs.touched.mark_all.Given as goal

abbrev pub invariant-loop-number : goal.invariant-loop-number
invariant-loop-number l = record {
  keeps : KeepsMarks l.fn.marks.items l.marks.items;
  marked : AreMarked l.marks.items (take l.number-index l.numbers);
}
