use Rattle.std.specs.List.{All}
use Rattle.occ_tree.specs.Places.{forest}
use Rattle.bearing.specs.Gone.{IsBehindGone}
use Rattle.bearing.proofs.gone_tokens.walls_of.Given as goal

abbrev pub invariant-loop-i : goal.invariant-loop-i
invariant-loop-i l = All (IsBehindGone l.net.committed (forest l.tree) l.gone) l.walls.items
