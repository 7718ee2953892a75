use Rattle.std.proofs.Common.{◌≡◌, map, take}
use Rattle.tmm_model.specs.Answers.{report_of}
use Rattle.protections.specs.Reviews.{news}
use Rattle.protections.proofs.review.newly_broken.Given as goal

abbrev pub invariant-loop-one : goal.invariant-loop-one
invariant-loop-one l = map report_of l.found.items ≡ news (take l.one-index l.reviewed)
