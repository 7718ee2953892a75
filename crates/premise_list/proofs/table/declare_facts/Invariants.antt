use Rattle.std.proofs.Common.{◌≡◌, ◌≤◌, ◌+◌, ◌++◌, map, take, drop}
use Rattle.std.specs.Prelude.{None}
use Rattle.indexmap.specs.IndexMap.{keys, spare}
use Rattle.tmm_model.specs.Verdicts.{first_taken}
use Rattle.premise_list.specs.Table.{fact_entry}
use Rattle.premise_list.proofs.table.declare_facts.Given as goal

abbrev pub invariant-loop-fact : goal.invariant-loop-fact
invariant-loop-fact l = record {
  entries : l.words.entries ≡ l.initial.words.entries ++ map (fact_entry l.place) (take l.fact-index l.facts);
  room : spare l.initial.words ≤ spare l.words + l.fact-index;
  new : first_taken (keys l.words) (drop l.fact-index l.facts) ≡ None;
}
