use Rattle.std.proofs.Common.{◌≡◌, ◌++◌, drop}
use Rattle.tmm_model.specs.Replies.{step_lines}
use Rattle.replies.proofs.details.put_steps.Given as goal

abbrev pub invariant-loop-step : goal.invariant-loop-step
invariant-loop-step l = l.out.items ++ step_lines l.indent (drop l.step-index l.steps) ≡ l.fn.out.items ++ step_lines l.indent l.steps
