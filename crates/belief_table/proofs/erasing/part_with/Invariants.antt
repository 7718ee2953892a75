use Rattle.std.proofs.Common.{take}
use Rattle.row_links.specs.Lists.{IsOn}
use Rattle.belief_table.specs.Decided.{KeepsLast, AreNoLonger}
use Rattle.belief_table.specs.Erasing.{class_at}
use Rattle.belief_table.specs.Erasing.{TellsOf, fact_at, NotesOf, DropsRowsAt}
use Rattle.bearing.specs.Gone.{gone_at}
use Rattle.belief_table.proofs.erasing.part_with.Given as goal

abbrev pub invariant-loop-y : goal.invariant-loop-y
invariant-loop-y l = record {
  tells : TellsOf l.tree (take l.y-index l.numbers) l.fn.departed.left.items l.departed.left.items;
  notes : NotesOf (class_at l.tree) (take l.y-index l.numbers) l.fn.departed.classes l.departed.classes;
  facts : NotesOf (fact_at l.tree) (take l.y-index l.numbers) l.fn.departed.facts l.departed.facts;
  tokens : NotesOf (gone_at l.tree) (take l.y-index l.numbers) l.fn.departed.tokens.items l.departed.tokens.items;
  rows : DropsRowsAt (IsOn (take l.y-index l.numbers)) l.fn.decisions l.decisions;
  fewer : AreNoLonger l.fn.decisions l.decisions;
  last : KeepsLast l.fn.decisions l.decisions;
}
