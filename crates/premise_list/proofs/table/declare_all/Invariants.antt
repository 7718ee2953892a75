use Rattle.std.proofs.Common.{◌≡◌, ◌≤◌, ◌+◌, List, ◌++◌, map, length, take, drop}
use Rattle.indexmap.specs.IndexMap.{spare}
use Rattle.tmm_model.specs.declared.premise.Premise.{Premise}
use Rattle.tmm_model.specs.Verdicts.{words_known}
use Rattle.list_theory.specs.WellNamed.{AllFollow}
use Rattle.premise_list.specs.Table.{placed, entry_seen}
use Rattle.premise_list.proofs.table.declare_all.Given as goal

abbrev pub invariant-loop-i : goal.invariant-loop-i
invariant-loop-i l = record {
  entries : map entry_seen l.words.entries ≡ map entry_seen l.initial.words.entries ++ placed l.place (take l.i l.premises);
  room : spare l.initial.words ≤ spare l.words + length (words_known (take l.i l.premises));
  follow : (before : List Premise) × (map entry_seen l.words.entries ≡ placed 0 before) × (length before ≡ l.place + l.i) × AllFollow before (drop l.i l.premises);
}
