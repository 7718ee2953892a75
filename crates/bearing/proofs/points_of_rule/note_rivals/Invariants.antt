use Rattle.std.proofs.Common.{take}
use Rattle.occ_tree.specs.Places.{forest}
use Rattle.bearing.specs.Reach.{Notes}
use Rattle.bearing.specs.Watched.{IsSpotAgainst}
use Rattle.bearing.proofs.points_of_rule.note_rivals.Given as goal

abbrev pub invariant-loop-place : goal.invariant-loop-place
invariant-loop-place l = Notes (forest l.tree) (IsSpotAgainst (forest l.tree) l.facts (take l.place l.standing.present.premises)) l.fn.reach l.reach
