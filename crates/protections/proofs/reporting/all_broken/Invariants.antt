use Rattle.std.proofs.Common.{◌≡◌, map, take}
use Rattle.std.specs.List.{filter_map}
use Rattle.tmm_model.specs.Answers.{broken, report_of}
use Rattle.tmm_model.specs.Maps.{built}
use Rattle.protections.proofs.reporting.all_broken.Given as goal

abbrev pub invariant-loop-i : goal.invariant-loop-i
invariant-loop-i l = map report_of l.found.items ≡ filter_map (broken (built l.map.standing.now.present)) (take l.i l.map.standing.now.present.premises)
