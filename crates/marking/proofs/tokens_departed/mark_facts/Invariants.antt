use Rattle.std.proofs.Common.{take}
use Rattle.occ_tree.specs.Standing.{present}
use Rattle.marking.specs.LeftMarks.{MarksFacts}
use Rattle.marking.proofs.tokens_departed.mark_facts.Given as goal

abbrev pub invariant-loop-k : goal.invariant-loop-k
invariant-loop-k l = MarksFacts l.standing.present (present l.tree) (take l.k l.facts) l.fn.decisions l.decisions
