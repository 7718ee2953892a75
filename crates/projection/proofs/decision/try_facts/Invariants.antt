use Rattle.std.proofs.Common.{◌≡◌, List, map, take, length, Some}
use Rattle.std.specs.List.{All}
use Rattle.tmm_model.specs.Beliefs.{holder}
use Rattle.tmm_model.specs.Moments.{Moment}
use Rattle.tmm_model.specs.Standing.{far_in}
use Rattle.spots.specs.Forest.{IsLive, moment_at}
use Rattle.spots.specs.OfLists.{HasOccurrences}
use Rattle.occ_tree.specs.Places.{forest}
use Rattle.projection.proofs.decision.try_facts.Given as goal

abbrev pub invariant-loop-antecedent : goal.invariant-loop-antecedent
invariant-loop-antecedent l = record {
  count : length l.supports.items ≡ l.antecedent;
  live : All (IsLive (forest l.map.tree.now)) l.supports.items;
  found : (b : List Moment) → HasOccurrences b (forest l.map.tree.now)
      → map (λ x. Some (moment_at (forest l.map.tree.now) x)) l.supports.items
      ≡ map (λ fact. holder l.map.standing.now.present (far_in l.map.standing.now.present.premises) b fact (moment_at (forest l.map.tree.now) l.trigger) (moment_at (forest l.map.tree.now) l.trigger)) (take l.antecedent l.given);
}
