use Rattle.std.proofs.Common.{take}
use Rattle.occ_tree.specs.Standing.{present}
use Rattle.marking.specs.Covered.{Covers}
use Rattle.belief_table.specs.Decided.{table_of, AreOfSome, KeepsLast}
use Rattle.belief_turns.specs.Leaving.{LosesRows}
use Rattle.belief_table.specs.Marks.{HaveEvents}
use Rattle.belief_turns.proofs.leaving.lose_rows.Given as goal

abbrev pub invariant-loop-y : goal.invariant-loop-y
invariant-loop-y l = record {
  lost : LosesRows l.standing.present l.net.present l.tree l.numbers (take l.y-index l.numbers) l.fn.decisions l.decisions;
  events : HaveEvents l.tree (table_of l.decisions);
  under : AreOfSome l.decisions;
  covered : Covers l.standing.present (present l.tree) l.decisions l.marks;
  last : KeepsLast l.fn.decisions l.decisions;
}
