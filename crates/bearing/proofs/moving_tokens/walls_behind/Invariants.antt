use Rattle.std.specs.List.{All}
use Rattle.occ_tree.specs.Places.{forest}
use Rattle.bearing.specs.Windows.{IsWall}
use Rattle.bearing.proofs.moving_tokens.walls_behind.Given as goal

abbrev pub invariant-loop-i : goal.invariant-loop-i
invariant-loop-i l = All (IsWall l.order.net.now.present (forest l.order.tree.now) l.moving l.token) l.walls.items
