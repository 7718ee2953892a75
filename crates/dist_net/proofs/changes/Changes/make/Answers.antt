use Rattle.std.proofs.Common.{arith}
use Rattle.dist_net.proofs.changes.Changes.make.Goals as goal

pub invariant_of-result : goal.invariant_of-result
invariant_of-result c = (omega (arith, c.in_ok-with_capacity.ensures.exact), omega (arith, c.in_ok-with_capacity-2.ensures.exact))
