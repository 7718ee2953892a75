use Rattle.std.proofs.Common.{map, take}
use Rattle.tmm_model.specs.Maps.{built}
use Rattle.spots.specs.Forest.{moment_at}
use Rattle.occ_tree.specs.Ranks.{nodes_of}
use Rattle.occ_tree.specs.Places.{forest}
use Rattle.map_core.specs.Heard.{Hears}
use Rattle.justify.specs.Lines.{AreLinesOfAll}
use Rattle.justify.proofs.lines.tell_all.Given as goal

abbrev pub invariant-loop-rank : goal.invariant-loop-rank
invariant-loop-rank g l =
    Hears g.R.Listener.parts_of (AreLinesOfAll (built l.map.standing.now.present) (map (moment_at (forest l.map.tree.now)) (nodes_of (take l.rank-index l.ranked))))
    (g.R.Listener.heard l.initial.listener) (g.R.Listener.heard l.listener)
