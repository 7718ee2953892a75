use Rattle.std.proofs.Common.{refl}
use Rattle.tmm_model.specs.Standing.{empty_list}
use Rattle.list_net.proofs.Networks.{at_start}
use Rattle.belief_trials.proofs.premises.bare_net.Goals as goal

pub returns-clause-network : goal.returns-clause-network
returns-clause-network c =
    at_start empty_list c.in_ok-net.net.present refl c.in_ok-net.ensures.present c.invariants.ensures.distinct c.invariants.ensures.start c.invariants.ensures.in_use c.invariants.ensures.dates
