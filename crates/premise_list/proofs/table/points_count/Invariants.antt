use Rattle.std.proofs.Common.{◌≡◌, length, take}
use Rattle.std.specs.List.{flat_map}
use Rattle.tmm_model.specs.Standing.{points_of}
use Rattle.premise_list.proofs.table.points_count.Given as goal

abbrev pub invariant-loop-premise : goal.invariant-loop-premise
invariant-loop-premise l = l.count ≡ length (flat_map points_of (take l.premise-index l.premises))
