use Rattle.std.proofs.Common.{◌≡◌, ℕ, ◌<◌, length, ◌≤ℤ◌}
use Rattle.std.specs.Prelude.{slice_index_or}
use Rattle.std.specs.declared.cmp.Ordering.TheVariants.{Less}
use Rattle.tmm_model.specs.declared.token.TokenRow.{TokenRow}
use Rattle.belief_trials.proofs.listed.is_by_date.Given as goal

abbrev pub invariant-loop-i : goal.invariant-loop-i
invariant-loop-i g l = record {
  some : 0 < l.i;
  dates : (j k : ℕ) (d : TokenRow g.row.S-Spot.Denot) → j < k → k < l.i → k < length l.tokens → g.S.Dated.date l.order (slice_index_or l.tokens j d).spot ≤ℤ g.S.Dated.date l.order (slice_index_or l.tokens k d).spot;
  before : (j k : ℕ) (d : TokenRow g.row.S-Spot.Denot) → j < k → k < l.i → k < length l.tokens → g.S.Sure.order l.order (slice_index_or l.tokens j d).spot (slice_index_or l.tokens k d).spot ≡ Less;
}
