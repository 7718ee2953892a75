use Rattle.clipping.specs.Stretches.{HaveStretches}
use Rattle.belief_trials.proofs.clips.with_stretches.Given as goal

abbrev pub invariant-loop-row : goal.invariant-loop-row
invariant-loop-row l = HaveStretches l.list.items
