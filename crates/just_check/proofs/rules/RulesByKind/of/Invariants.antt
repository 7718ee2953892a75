use Rattle.std.proofs.Common.{◌≡◌, ℕ, List, take}
use Rattle.std.specs.List.{filter_map}
use Rattle.tmm_model.specs.Beliefs.{on_kind}
use Rattle.name_lists.specs.Lists.{list_of}
use Rattle.just_check.proofs.rules.RulesByKind.of.Given as goal

abbrev pub invariant-loop-place : goal.invariant-loop-place
invariant-loop-place l = (kind : List ℕ) → list_of l.rules.rules kind ≡ filter_map (on_kind kind) (take l.place l.standing.present.premises)
