use Rattle.std.proofs.Common.{◌≡◌, map, take}
use Rattle.std.specs.List.{filter_map}
use Rattle.tmm_model.specs.Answers.{report_of}
use Rattle.protections.specs.Reported.{mended_of}
use Rattle.protections.proofs.comparing.mended.Given as goal

abbrev pub invariant-loop-i : goal.invariant-loop-i
invariant-loop-i l = l.found.items ≡ filter_map (mended_of (map report_of l.before) (map report_of l.after)) (take l.i l.standing.present.premises)
