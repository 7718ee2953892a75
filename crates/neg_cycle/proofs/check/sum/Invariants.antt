use Rattle.std.proofs.Common.{◌≡◌, ◌*◌, ◌≤ℤ◌, pos, neg_ℤ, take}
use Rattle.tmm_model.specs.Cycles.{sum_of}
use Rattle.neg_cycle.proofs.check.sum.Given as goal

abbrev pub invariant-loop-step : goal.invariant-loop-step
invariant-loop-step l = record {
  is : l.sum ≡ sum_of (take l.step-index l.steps);
  low : neg_ℤ (pos (l.step-index * 9223372036854775808)) ≤ℤ l.sum;
  high : l.sum ≤ℤ pos (l.step-index * 9223372036854775808);
}
