use Rattle.std.proofs.Common.{map, take}
use Rattle.projection.specs.Places.{name_at}
use Rattle.projection.specs.Queues.{Queues}
use Rattle.occ_tree.specs.Places.{forest}
use Rattle.projection.proofs.growth.wait_for.Given as goal

abbrev pub invariant-loop-place : goal.invariant-loop-place
invariant-loop-place l = Queues l.map.standing.now.present (forest l.map.tree.now) l.x (map (name_at l.map.standing.now.present) (take l.place-index l.places)) l.initial.queue l.queue
