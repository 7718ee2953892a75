use Rattle.std.proofs.Common.{◌≡◌, ◌≤◌, ◌++◌, map, take, drop}
use Rattle.indexmap.specs.IndexMap.{spare}
use Rattle.premise_list.specs.Table.{entry_seen}
use Rattle.premise_list.proofs.Moves.{lowered}
use Rattle.premise_list.proofs.table.move_down.Given as goal

abbrev pub invariant-loop-i : goal.invariant-loop-i
invariant-loop-i l = record {
  entries : map entry_seen l.words.entries ≡ take l.i (lowered l.first (map entry_seen l.fn.words.entries)) ++ drop l.i (map entry_seen l.fn.words.entries);
  room : spare l.fn.words ≤ spare l.words;
}
