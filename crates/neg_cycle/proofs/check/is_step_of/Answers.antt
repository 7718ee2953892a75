use Rattle.std.proofs.Common.{◌↔◌, IsTrue, subst, sym}
use Rattle.std.specs.List.{Contains}
use Rattle.tmm_model.specs.declared.premise.Premise.{Premise}
use Rattle.tmm_model.specs.Standing.{steps_of, hi_steps, lo_steps}
use Rattle.neg_cycle.proofs.Checked.{IsTrue-second, no}
use Rattle.neg_cycle.proofs.check.is_step_of.Goals as goal

pub returns-else-is_hi : goal.returns-else-is_hi
returns-else-is_hi c =
    subst (λ (p : Premise). IsTrue c.is_lo.result ↔ Contains (steps_of p) c.args.step.now) (sym c.in-Dist.is)
    (IsTrue-second c.is_lo.result (hi_steps c.in-Dist.name c.in-Dist.from c.in-Dist.to c.in-Dist.hi) (lo_steps c.in-Dist.name c.in-Dist.from c.in-Dist.to c.in-Dist.lo) c.args.step.now (no c.if-is_hi.ensures) c.is_lo.ensures)
