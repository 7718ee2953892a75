use Rattle.std.proofs.Common.{◌↔◌, drop}
use Rattle.tmm_model.specs.Cycles.{Leads}
use Rattle.neg_cycle.proofs.check.leads.Given as goal

abbrev pub invariant-loop-step : goal.invariant-loop-step
invariant-loop-step l = Leads l.from l.to l.steps ↔ Leads l.at l.to (drop l.step-index l.steps)
