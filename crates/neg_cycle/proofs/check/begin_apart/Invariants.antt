use Rattle.std.proofs.Common.{◌↔◌, drop}
use Rattle.std.specs.List.{IsDistinct}
use Rattle.tmm_model.specs.Cycles.{begins}
use Rattle.tmm_model.specs.Points.{same_point}
use Rattle.neg_cycle.proofs.check.begin_apart.Given as goal

abbrev pub invariant-loop-i : goal.invariant-loop-i
invariant-loop-i l = IsDistinct same_point (begins l.steps) ↔ IsDistinct same_point (begins (drop l.i l.steps))
