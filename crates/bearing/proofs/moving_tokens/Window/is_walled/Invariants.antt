use Rattle.std.proofs.Common.{take}
use Rattle.occ_tree.specs.Places.{forest}
use Rattle.spots.specs.Spots.{spot_distance}
use Rattle.bearing.specs.Windows.{net_in, tree_in}
use Rattle.bearing.proofs.Spared.{Seen}
use Rattle.bearing.proofs.moving_tokens.Window.is_walled.Given as goal

abbrev pub invariant-loop-wall : goal.invariant-loop-wall
invariant-loop-wall l = Seen (spot_distance (net_in l.self) (forest (tree_in l.self))) l.event l.first (take l.wall-index l.self.walls.items)
