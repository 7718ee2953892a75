use Rattle.std.proofs.Common.{◌≡◌, map, take}
use Rattle.std.specs.List.{flat_map}
use Rattle.tmm_model.specs.Maps.{built}
use Rattle.tmm_model.specs.Standing.{points_of}
use Rattle.timeline.specs.Days.{point_date}
use Rattle.timeline.specs.Told.{date_of}
use Rattle.timeline.proofs.dates.point_dates.Given as goal

abbrev pub invariant-loop-place : goal.invariant-loop-place
invariant-loop-place g l =
    map date_of l.dates.items ≡ map (point_date (built (g.M.MapCore.list l.core))) (flat_map points_of (take l.place (g.M.MapCore.list l.core).premises))
