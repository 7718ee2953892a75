use Rattle.std.proofs.Common.{take}
use Rattle.occ_tree.specs.Standing.{present}
use Rattle.marking.specs.LeftMarks.{MarksTokens}
use Rattle.belief_table.specs.Decided.{KeepsLast}
use Rattle.marking.proofs.tokens_departed.mark_tokens.Given as goal

abbrev pub invariant-loop-k : goal.invariant-loop-k
invariant-loop-k l = record {
  marks : MarksTokens l.net.committed (present l.tree) (take l.k l.tokens) l.fn.decisions l.decisions;
  last : KeepsLast l.fn.decisions l.decisions;
}
