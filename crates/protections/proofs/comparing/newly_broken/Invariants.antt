use Rattle.std.proofs.Common.{◌≡◌, map, take}
use Rattle.std.specs.List.{filter_map}
use Rattle.tmm_model.specs.Answers.{report_of}
use Rattle.protections.specs.Reported.{new_of}
use Rattle.protections.proofs.comparing.newly_broken.Given as goal

abbrev pub invariant-loop-report : goal.invariant-loop-report
invariant-loop-report l = map report_of l.found.items ≡ filter_map (new_of (map report_of l.before)) (map report_of (take l.report-index l.after))
