use Rattle.std.proofs.Common.{◌≡◌, map, drop}
use Rattle.tmm_model.specs.Sorts.{fact_use}
use Rattle.tmm_model.specs.Verdicts.{uses_cause}
use Rattle.premise_list.proofs.table.Table.check_facts.Given as goal

abbrev pub invariant-loop-fact : goal.invariant-loop-fact
invariant-loop-fact l = uses_cause l.self.premises (map fact_use (drop l.fact-index l.facts)) ≡ uses_cause l.self.premises (map fact_use l.facts)
