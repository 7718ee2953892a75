use Rattle.net_theory.specs.Fits.{IsNetOf}
use Rattle.list_net.specs.Settled.{NothingPending}
use Rattle.belief_trials.proofs.orders.with_rules.Given as goal

abbrev pub invariant-loop-i : goal.invariant-loop-i
invariant-loop-i l = IsNetOf l.premises.list.present l.premises.net.present × NothingPending l.premises.list l.premises.net
