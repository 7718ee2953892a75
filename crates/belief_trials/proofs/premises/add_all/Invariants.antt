use Rattle.net_theory.specs.Fits.{IsNetOf}
use Rattle.list_net.specs.Settled.{NothingPending}
use Rattle.belief_trials.proofs.premises.add_all.Given as goal

abbrev pub invariant-loop-line : goal.invariant-loop-line
invariant-loop-line l = IsNetOf l.list.present l.net.present × NothingPending l.list l.net
