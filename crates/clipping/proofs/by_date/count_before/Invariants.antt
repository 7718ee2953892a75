use Rattle.std.proofs.Common.{◌≡◌, ◌≢◌, ℕ, ◌-◌, ◌<◌, ◌≤◌, length}
use Rattle.std.specs.Prelude.{slice_index_or}
use Rattle.std.specs.declared.cmp.Ordering.TheVariants.{Less}
use Rattle.tmm_model.specs.declared.token.TokenRow.{TokenRow}
use Rattle.clipping.proofs.by_date.count_before.Given as goal

abbrev pub invariant-loop-low : goal.invariant-loop-low
invariant-loop-low g l = record {
  low : l.low ≤ l.high;
  high : l.high ≤ length l.tokens;
  first : (i : ℕ) (d : TokenRow g.row.S-Spot.Denot) → i < l.low → g.S.Sure.order l.order (slice_index_or l.tokens i d).spot l.spot ≡ Less;
  rest : (i : ℕ) (d : TokenRow g.row.S-Spot.Denot) → l.high ≤ i → i < length l.tokens → g.S.Sure.order l.order (slice_index_or l.tokens i d).spot l.spot ≢ Less;
}

abbrev pub decreases-loop-low : goal.decreases-loop-low
decreases-loop-low g l = l.high - l.low
