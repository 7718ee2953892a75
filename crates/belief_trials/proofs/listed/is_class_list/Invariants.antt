use Rattle.std.proofs.Common.{◌≡◌, ℕ, ◌<◌}
use Rattle.std.specs.Prelude.{nat_eq}
use Rattle.std.specs.List.{All}
use Rattle.tmm_model.specs.Points.{same_name}
use Rattle.clipping.specs.Across.{list_at}
use Rattle.belief_trials.proofs.listed.is_class_list.Given as goal

abbrev pub invariant-loop-i : goal.invariant-loop-i
invariant-loop-i g l = (j : ℕ) → j < l.i → All (λ k. same_name k.class l.class ≡ nat_eq j l.own) (list_at (g.T.Tokens.lists l.tokens) j)
