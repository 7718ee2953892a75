use Rattle.std.proofs.Common.{ℕ, ◌<◌, ◌++◌, ◌∷◌, [], get_or}
use Rattle.std.specs.List.{Contains}
use Rattle.tmm_model.specs.declared.walk.WalkStep.{WalkStep}
use Rattle.tmm_model.specs.Cycles.{steps_in}
use Rattle.neg_cycle.proofs.check.are_known.Given as goal

abbrev pub invariant-loop-step : goal.invariant-loop-step
invariant-loop-step l = (k : ℕ) (d : WalkStep) → k < l.step-index → Contains (steps_in (l.standing.present.premises ++ l.refused ∷ [])) (get_or l.steps k d)
