use Rattle.std.proofs.Common.{◌≡◌, ℕ, ◌<◌}
use Rattle.std.specs.Prelude.{slice_index_or}
use Rattle.tmm_model.specs.declared.token.TokenRow.{TokenRow}
use Rattle.tmm_model.specs.Points.{same_name}
use Rattle.belief_trials.proofs.listed.agree.Given as goal

abbrev pub invariant-loop-k : goal.invariant-loop-k
invariant-loop-k g l = (j : ℕ) (d : TokenRow g.row.P.Denot) → j < l.k-index → same_name (slice_index_or l.tokens j d).class l.class ≡ l.of_class
