use Rattle.std.proofs.Common.{arith}
use Rattle.dist_net.proofs.changes.Changes.clear.Goals as goal

pub invariant_of-self : goal.invariant_of-self
invariant_of-self c = (omega (arith, c.clear.ensures.capacity, c.self.invariant.0), c.self.invariant.1)
