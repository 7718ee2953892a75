use Rattle.std.proofs.Common.{◌≡◌, ◌++◌, drop}
use Rattle.std.specs.Prelude.{filter}
use Rattle.std.specs.List.{All}
use Rattle.std.specs.Option.{is_some}
use Rattle.belief_list.specs.Told.{left_at, differences_of, IsToldThen}
use Rattle.belief_list.proofs.told_changes.gone_nodes.Given as goal

abbrev pub invariant-loop-d : goal.invariant-loop-d
invariant-loop-d l = record {
  same : differences_of l.told.items ++ filter (λ d. is_some (left_at l.left l.places d)) (drop l.d-index l.differences) ≡ filter (λ d. is_some (left_at l.left l.places d)) l.differences;
  dated : All (IsToldThen l.left l.places) l.told.items;
}
