use Rattle.std.proofs.Common.{ℕ, ◌<◌}
use Rattle.clipping.specs.Across.{list_at}
use Rattle.clipping.specs.ByDate.{IsByDate}
use Rattle.belief_trials.proofs.listed.are_by_date.Given as goal

abbrev pub invariant-loop-i : goal.invariant-loop-i
invariant-loop-i g l = (j : ℕ) → j < l.i → IsByDate (g.S.Dated.date l.order) (g.S.Sure.order l.order) (list_at (g.T.Tokens.lists l.tokens) j)
