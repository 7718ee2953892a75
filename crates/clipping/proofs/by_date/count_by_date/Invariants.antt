use Rattle.std.proofs.Common.{ℕ, ◌-◌, ◌<◌, ◌≤◌, length, ◌≤ℤ◌, ◌<ℤ◌}
use Rattle.std.specs.Prelude.{slice_index_or}
use Rattle.tmm_model.specs.declared.token.TokenRow.{TokenRow}
use Rattle.clipping.proofs.by_date.count_by_date.Given as goal

abbrev pub invariant-loop-low : goal.invariant-loop-low
invariant-loop-low g l = record {
  low : l.low ≤ l.high;
  high : l.high ≤ length l.tokens;
  first : (i : ℕ) (d : TokenRow g.row.S-Spot.Denot) → i < l.low → g.S.Dated.date l.order (slice_index_or l.tokens i d).spot ≤ℤ l.until;
  rest : (i : ℕ) (d : TokenRow g.row.S-Spot.Denot) → l.high ≤ i → i < length l.tokens → l.until <ℤ g.S.Dated.date l.order (slice_index_or l.tokens i d).spot;
}

abbrev pub decreases-loop-low : goal.decreases-loop-low
decreases-loop-low g l = l.high - l.low
