use Rattle.std.specs.List.{All}
use Rattle.dist_repair.specs.Rows.{IsHeld}
use Rattle.dist_repair.proofs.hold.Given as goal

abbrev pub invariant-loop-i : goal.invariant-loop-i
invariant-loop-i l = All (IsHeld l.net.present l.place) l.held
