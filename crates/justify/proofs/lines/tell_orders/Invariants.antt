use Rattle.std.proofs.Common.{map, take}
use Rattle.std.specs.List.{flat_map}
use Rattle.tmm_model.specs.Maps.{built}
use Rattle.tmm_model.specs.Reasons.{pairs_of}
use Rattle.spots.specs.Forest.{moment_at}
use Rattle.occ_tree.specs.Places.{forest}
use Rattle.map_core.specs.Heard.{Hears}
use Rattle.justify.specs.Lines.{AreOrders}
use Rattle.justify.proofs.lines.tell_orders.Given as goal

abbrev pub invariant-loop-x : goal.invariant-loop-x
invariant-loop-x g l =
    Hears g.R.Listener.parts_of (AreOrders (built l.map.standing.now.present) (flat_map (pairs_of (built l.map.standing.now.present) (moment_at (forest l.map.tree.now) l.event)) (map (moment_at (forest l.map.tree.now)) (take l.x-index l.supports))))
    (g.R.Listener.heard l.initial.listener) (g.R.Listener.heard l.listener)
