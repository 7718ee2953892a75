use Rattle.std.proofs.Common.{◌≡◌, ◌++◌, map, take}
use Rattle.tmm_model.specs.Maps.{built}
use Rattle.timeline.specs.Days.{point_date}
use Rattle.timeline.specs.Told.{date_of}
use Rattle.timeline.proofs.dates.add_points.Given as goal

abbrev pub invariant-loop-point : goal.invariant-loop-point
invariant-loop-point g l = map date_of l.dates.items ≡ map date_of l.fn.dates.items ++ map (point_date (built (g.M.MapCore.list l.core))) (take l.point-index l.point-items)
