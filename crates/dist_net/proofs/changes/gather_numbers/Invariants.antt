use Rattle.dist_net.specs.Changes.{AreGathered}
use Rattle.dist_net.proofs.changes.gather_numbers.Given as goal

abbrev pub invariant-loop-place : goal.invariant-loop-place
invariant-loop-place l = AreGathered l.places l.place-index l.from l.to
