use Rattle.std.proofs.Common.{◌≡◌, ◌++◌, drop}
use Rattle.std.specs.List.{flat_map}
use Rattle.replies.specs.Timelines.{point_line}
use Rattle.replies.proofs.timelines.put_points.Given as goal

abbrev pub invariant-loop-point : goal.invariant-loop-point
invariant-loop-point l = l.out.items ++ flat_map point_line (drop l.point-index l.points) ≡ l.initial.out.items ++ flat_map point_line l.points
