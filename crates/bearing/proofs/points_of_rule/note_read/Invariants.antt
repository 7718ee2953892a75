use Rattle.std.proofs.Common.{take}
use Rattle.occ_tree.specs.Places.{forest}
use Rattle.bearing.specs.Reach.{Notes}
use Rattle.bearing.specs.Watched.{IsSpotRead}
use Rattle.bearing.proofs.points_of_rule.note_read.Given as goal

abbrev pub invariant-loop-i : goal.invariant-loop-i
invariant-loop-i l = Notes (forest l.tree) (IsSpotRead l.standing.present (forest l.tree) (take l.i l.facts)) l.fn.reach l.reach
