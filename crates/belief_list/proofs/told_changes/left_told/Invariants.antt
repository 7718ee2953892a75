use Rattle.std.proofs.Common.{◌≡◌, ◌++◌, map, drop}
use Rattle.std.specs.List.{filter_map}
use Rattle.tmm_model.specs.Moments.{moment_of}
use Rattle.belief_list.specs.Told.{left_at, differences_of}
use Rattle.belief_list.proofs.told_changes.left_told.Given as goal

abbrev pub invariant-loop-t : goal.invariant-loop-t
invariant-loop-t l =
    map moment_of l.occs.items ++ filter_map (left_at l.left l.places) (differences_of (drop l.t-index l.told))
    ≡ filter_map (left_at l.left l.places) (differences_of l.told)
