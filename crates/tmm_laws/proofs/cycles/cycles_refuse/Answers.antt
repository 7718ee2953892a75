use Rattle.list_theory.proofs.Cycles.{no_dates_from_cycle, IsNegativeCycle-from_cycle}
use Rattle.tmm_laws.proofs.cycles.cycles_refuse.Goals as goal

pub returns : goal.returns
returns c = record { refuses = no_dates_from_cycle; shown = IsNegativeCycle-from_cycle }
