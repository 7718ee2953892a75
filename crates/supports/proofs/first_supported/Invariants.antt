use Rattle.std.proofs.Common.{◌≡◌, List, map, take}
use Rattle.std.specs.Prelude.{None}
use Rattle.tmm_model.specs.Beliefs.{holder}
use Rattle.tmm_model.specs.Moments.{Moment}
use Rattle.tmm_model.specs.Standing.{far_in}
use Rattle.belief_theory.specs.Outcomes.{first_with}
use Rattle.spots.specs.OfLists.{HasOccurrences}
use Rattle.spots.specs.Spots.{spot_moment}
use Rattle.occ_tree.specs.Places.{forest}
use Rattle.supports.proofs.first_supported.Given as goal

abbrev pub invariant-loop-place : goal.invariant-loop-place
invariant-loop-place l = (b : List Moment) → HasOccurrences b (forest l.map.tree.now)
    → first_with (map (λ fact. holder l.map.standing.now.present (far_in l.map.standing.now.present.premises) b fact (spot_moment l.map.net.now.present.names (forest l.map.tree.now) l.at) (spot_moment l.map.net.now.present.names (forest l.map.tree.now) l.at)) (take l.place l.facts)) ≡ None
