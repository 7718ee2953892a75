use Rattle.std.proofs.Common.{◌≡◌, List, map, take, None}
use Rattle.tmm_model.specs.Beliefs.{holder}
use Rattle.tmm_model.specs.Moments.{Moment}
use Rattle.tmm_model.specs.Standing.{far_in}
use Rattle.belief_theory.specs.Outcomes.{first_without}
use Rattle.spots.specs.Forest.{moment_at}
use Rattle.spots.specs.OfLists.{HasOccurrences}
use Rattle.occ_tree.specs.Places.{forest}
use Rattle.projection.proofs.judging.judge_facts.Given as goal

abbrev pub invariant-loop-antecedent : goal.invariant-loop-antecedent
invariant-loop-antecedent l = (b : List Moment) → HasOccurrences b (forest l.map.tree.now)
    → first_without (map (λ fact. holder l.map.standing.now.present (far_in l.map.standing.now.present.premises) b fact (moment_at (forest l.map.tree.now) l.trigger) (moment_at (forest l.map.tree.now) l.trigger)) (take l.antecedent l.given)) ≡ None
