use Rattle.std.proofs.Common.{◌≡◌, ℕ, List, map, take}
use Rattle.std.specs.List.{All, filter_map}
use Rattle.tmm_model.specs.Beliefs.{on_kind}
use Rattle.name_lists.specs.Lists.{list_of}
use Rattle.timeline.specs.Kinds.{name_at, IsRuleAt}
use Rattle.timeline.proofs.kinds.RulesByKind.of.Given as goal

abbrev pub invariant-loop-place : goal.invariant-loop-place
invariant-loop-place l = record {
  named : (kind : List ℕ) → map (name_at l.standing.present) (list_of l.rules.rules kind) ≡ filter_map (on_kind kind) (take l.place l.standing.present.premises);
  places : (kind : List ℕ) → All (IsRuleAt l.standing.present) (list_of l.rules.rules kind);
}
