use Rattle.std.proofs.Common.{◌≡◌, take}
use Rattle.protections.specs.Reviews.{mends}
use Rattle.protections.proofs.review.mended.Given as goal

abbrev pub invariant-loop-one : goal.invariant-loop-one
invariant-loop-one l = l.found.items ≡ mends (take l.one-index l.reviewed)
