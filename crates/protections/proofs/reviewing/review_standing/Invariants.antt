use Rattle.std.proofs.Common.{take}
use Rattle.tmm_model.specs.Maps.{built}
use Rattle.protections.specs.Found.{found_in}
use Rattle.protections.specs.Reviews.{AreReviewed}
use Rattle.protections.proofs.reviewing.review_standing.Given as goal

abbrev pub invariant-loop-i : goal.invariant-loop-i
invariant-loop-i l = AreReviewed (built l.map.standing.now.present) (found_in l.old) (take l.i l.map.standing.now.present.premises) l.found.items
