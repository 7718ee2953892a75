use Rattle.tmm_laws.proofs.CycleSums.{one_sum}
use Rattle.list_theory.proofs.Cycles.{IsCycleSum-from_cycle}
use Rattle.tmm_laws.proofs.cycles.cycle_sums_are_one.Goals as goal

pub returns : goal.returns
returns c = record { one = one_sum; told = IsCycleSum-from_cycle }
