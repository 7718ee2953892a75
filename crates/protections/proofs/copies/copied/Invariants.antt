use Rattle.std.proofs.Common.{◌≡◌, map, take}
use Rattle.tmm_model.specs.Answers.{report_of}
use Rattle.protections.proofs.copies.copied.Given as goal

abbrev pub invariant-loop-report : goal.invariant-loop-report
invariant-loop-report l = map report_of l.copies.items ≡ map report_of (take l.report-index l.reports)
