use Rattle.std.proofs.Common.{List, take}
use Rattle.tmm_model.specs.Moments.{Moment}
use Rattle.spots.specs.OfLists.{HasOccurrences}
use Rattle.occ_tree.specs.Places.{forest}
use Rattle.just_check.specs.Checking.{AwaitsMore}
use Rattle.just_check.proofs.auditing.expect_effects.Given as goal

abbrev pub invariant-loop-rule : goal.invariant-loop-rule
invariant-loop-rule l = (b : List Moment) → HasOccurrences b (forest l.map.tree.now) → AwaitsMore l.map.standing.now.present (forest l.map.tree.now) b l.x (take l.rule-index l.rule-items) l.initial.expected l.expected
