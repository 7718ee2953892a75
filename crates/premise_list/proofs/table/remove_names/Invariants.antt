use Rattle.std.proofs.Common.{◌≡◌, ◌≤◌, ◌+◌, ◌++◌, take, drop}
use Rattle.indexmap.specs.IndexMap.{spare}
use Rattle.premise_list.proofs.table.remove_names.Given as goal

abbrev pub invariant-loop : goal.invariant-loop
invariant-loop l = record {
  entries : l.words.entries ≡ take l.first l.fn.words.entries ++ drop (l.first + l.counter) l.fn.words.entries;
  room : spare l.fn.words ≤ spare l.words;
}
