use Rattle.std.proofs.Common.{refl}
use Rattle.neg_cycle.proofs.Checked.{IsTrue-refused, IsTrue-others, no}
use Rattle.neg_cycle.proofs.check.is_known.Goals as goal

pub returns-then-is_step_of : goal.returns-then-is_step_of
returns-then-is_step_of c = (λ _. IsTrue-refused c.args.standing.now.present.premises c.args.refused.now c.args.step.now (c.if-is_step_of.ensures.0 refl), λ _. c.if-is_step_of.true)

pub returns-else-is_step_of : goal.returns-else-is_step_of
returns-else-is_step_of c = IsTrue-others c.is_standing.result c.args.standing.now.present.premises c.args.refused.now c.args.step.now (no c.if-is_step_of.ensures) c.is_standing.ensures
