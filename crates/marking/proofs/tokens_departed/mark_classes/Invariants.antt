use Rattle.std.proofs.Common.{take}
use Rattle.occ_tree.specs.Standing.{present}
use Rattle.marking.specs.LeftMarks.{MarksClasses}
use Rattle.belief_table.specs.Decided.{KeepsLast}
use Rattle.marking.proofs.tokens_departed.mark_classes.Given as goal

abbrev pub invariant-loop-k : goal.invariant-loop-k
invariant-loop-k l = record {
  marks : MarksClasses (present l.tree) (take l.k l.classes) l.fn.decisions l.decisions;
  last : KeepsLast l.fn.decisions l.decisions;
}
