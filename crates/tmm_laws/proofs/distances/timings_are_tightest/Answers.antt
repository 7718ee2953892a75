use Rattle.tmm_laws.proofs.distances.timings_are_tightest.Goals as goal
use Rattle.tmm_laws.proofs.Earliest.{earliest}
use Rattle.tmm_laws.proofs.Timings.{tightest, sure}

pub returns-clause-distances : goal.returns-clause-distances
returns-clause-distances c = tightest

pub returns-clause-sure : goal.returns-clause-sure
returns-clause-sure c = λ s sound b x y. sure s b x y sound

pub returns-clause-early : goal.returns-clause-early
returns-clause-early c = earliest
