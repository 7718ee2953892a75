-- The first token of a fact behind a spot.
use Rattle.std.proofs.Common.{◌≡◌, ℕ, ◌<◌, ◌≤◌, inl, inr, Bool, true, false, ◌&&◌, List, length, arith}
use Rattle.std.proofs.lemmas.Bool.{cases_lt, and_left, and_right, false_from_ne_true}
use Rattle.std.specs.Prelude.{Option, Some, None, MatchOption, ℤ, slice_index_or}
use Rattle.std.specs.List.{All}
use Rattle.std.specs.declared.cmp.Ordering.{Ordering}
use Rattle.std.specs.Ordering.{is_lt, on}
use Rattle.belief_theory.specs.FirstPlaces.{IsFirstPlace}
use Rattle.tmm_model.specs.declared.token.TokenRow.{TokenRow}
use Rattle.tmm_model.specs.declared.bound.Bound.{Bound}
use Rattle.tmm_model.specs.Points.{same_name}
use Rattle.tmm_model.specs.Tokens.{is_before}
use Rattle.tmm_model.specs.Types.{IsOrderOn}
use Rattle.clipping.specs.Live.{IsLive}
use Rattle.clipping.specs.ByDate.{AreDatesOn, IsByDate, AreUntil, AreBefore, NonePass, IsFirstPlaceIn}
use Rattle.clipping.specs.Cutters.{is_after, is_between}
use Rattle.clipping.proofs.Halving.{is_less}
use Rattle.clipping.proofs.RuledOut.{not_before, first_is}

-- **The first behind a spot's date, before another spot, is the first of all.**
pub first_of_fact_is : {P : Type 0} {live : P → Type 0} {far : P → P → Bound} {date : P → ℤ} {order : P → P → Ordering} → IsOrderOn live order → AreDatesOn live far date → (tokens : List (TokenRow P)) → IsByDate date order tokens → All (IsLive live) tokens
    → (fact : List ℕ) (p : P) → live p → (before : Option P) → (low : ℕ) → AreUntil date tokens (date p) low → (high : ℕ) → MatchOption before (high ≡ length tokens) (λ q. AreBefore order tokens q high)
    → (place : Option ℕ) → IsFirstPlaceIn (is_after fact far p) tokens low high place → IsFirstPlace (on (λ k. k.spot) order) (is_between fact far order p before) tokens place
first_of_fact_is {P} {live} {far} {date} {order} law dated tokens sorted all fact p lp before low early high late place found = by place found
  where
    test : TokenRow P → Bool
    test = is_between fact far order p before

    short : high ≤ length tokens
    short = by before late
      where
        by : (o : Option P) → MatchOption o (high ≡ length tokens) (λ q. AreBefore order tokens q high) → high ≤ length tokens
        by None e = omega arith
        by (Some q) are = are.within

    -- what does not begin after it does not between
    fails : (o : Option P) (c : TokenRow P) → is_after fact far p c ≡ false → is_between fact far order p o c ≡ false
    fails None c e = e
    fails (Some q) c e = and_left (is_after fact far p c) (is_lt (order c.spot q)) e

    passes : (o : Option P) → MatchOption o (high ≡ length tokens) (λ q. AreBefore order tokens q high) → (i : ℕ) (d : TokenRow P) → i < high → is_after fact far p (slice_index_or tokens i d) ≡ true → is_between fact far order p o (slice_index_or tokens i d) ≡ true
    passes None e i d lt after = after
    passes (Some q) are i d lt after = λ t. after t && is_lt (are.first i d lt t)

    front : NonePass test tokens 0 low
    front i d from lt =
        fails before (slice_index_or tokens i d) (and_right (same_name (slice_index_or tokens i d).fact fact) (is_before far p (slice_index_or tokens i d).spot)
        (not_before dated p (slice_index_or tokens i d).spot lp (all i d (omega (arith, early.within))).begin (early.first i d lt)))

    back : NonePass test tokens high (length tokens)
    back i d from lt = by before late
      where
        by : (o : Option P) → MatchOption o (high ≡ length tokens) (λ q. AreBefore order tokens q high) → is_between fact far order p o (slice_index_or tokens i d) ≡ false
        by None e = absurd (omega arith)
        by (Some q) are =
            and_right (is_after fact far p (slice_index_or tokens i d)) (is_lt (order (slice_index_or tokens i d).spot q))
            (false_from_ne_true (is_lt (order (slice_index_or tokens i d).spot q)) (λ e. are.rest i d from lt (is_less (order (slice_index_or tokens i d).spot q) e)))

    by : (place : Option ℕ) → IsFirstPlaceIn (is_after fact far p) tokens low high place → IsFirstPlace (on (λ k. k.spot) order) test tokens place
    by None h = λ i d lt. elim (cases_lt i low) [
      | inl less ↦ front i d (omega arith) less
      | inr more ↦ elim (cases_lt i high) [ inl inside ↦ fails before (slice_index_or tokens i d) (h i d more inside) | inr behind ↦ back i d behind lt ]
    ]
    by (Some i) (h, first) = first_is law tokens sorted all test i (omega (arith, short, h.before)) (λ d. passes before late i d h.before (h.passes d))
        (λ j d from lt. elim (cases_lt j low) [ inl less ↦ front j d from less | inr more ↦ fails before (slice_index_or tokens j d) (first j d more lt) ])
