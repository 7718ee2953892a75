use Rattle.bearing.specs.Places.{net_at}
use Rattle.bearing.specs.Shifts.{AreBehind}
use Rattle.bearing.proofs.walls.tokens_behind.Given as goal

abbrev pub invariant-loop-i : goal.invariant-loop-i
invariant-loop-i l = AreBehind (net_at l.net l.before) l.place l.tokens l.behind.items
