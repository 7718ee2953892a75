use Rattle.neg_cycle.proofs.Sums.{sum_fits}
use Rattle.neg_cycle.proofs.ranks.is_over_start.Goals as goal

pub overflow_add-first : goal.overflow_add-first
overflow_add-first c = sum_fits c.in-Finite.first c.in-Finite-far.rest c.in-Finite.ensures.small c.in-Finite-far.ensures.small
