use Rattle.std.proofs.Common.{◌≡◌, List, take, true}
use Rattle.std.specs.List.{list_all}
use Rattle.tmm_model.specs.Beliefs.{supported}
use Rattle.tmm_model.specs.Moments.{Moment}
use Rattle.tmm_model.specs.Standing.{far_in}
use Rattle.spots.specs.Forest.{moment_at}
use Rattle.spots.specs.OfLists.{HasOccurrences}
use Rattle.occ_tree.specs.Places.{forest}
use Rattle.just_check.proofs.rules.is_free_with.Given as goal

abbrev pub invariant-loop-fact : goal.invariant-loop-fact
invariant-loop-fact l = (b : List Moment) → HasOccurrences b (forest l.map.tree.now)
    → list_all (supported l.map.standing.now.present (far_in l.map.standing.now.present.premises) b (moment_at (forest l.map.tree.now) l.x)) (take l.fact-index l.given) ≡ true
