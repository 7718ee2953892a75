-- One token more in the order of dates.
use Rattle.std.proofs.Common.{◌≡◌, ℕ, ◌+◌, ◌-◌, ◌<◌, inl, inr, List, length, subst, arith}
use Rattle.std.proofs.lemmas.Int.{ints}
use Rattle.std.proofs.lemmas.Bool.{cases_lt}
use Rattle.std.specs.Prelude.{ℤ, ◌≤ℤ◌, slice_index_or}
use Rattle.std.specs.List.{All}
use Rattle.std.proofs.lemmas.List.{get_or_default}
use Rattle.std.specs.declared.cmp.Ordering.{Ordering}
use Rattle.std.specs.declared.cmp.Ordering.TheVariants.{Less}
use Rattle.tmm_model.specs.declared.token.TokenRow.{TokenRow}
use Rattle.tmm_model.specs.Types.{IsOrderOn}
use Rattle.clipping.specs.Live.{IsLive}

-- what is read does not hang on the default
pub pair_read : {A : Type 0} (Q : A → A → Type 0) (xs : List A) (j k : ℕ) (a b d e : A) → j < length xs → k < length xs → Q (slice_index_or xs j a) (slice_index_or xs k b) → Q (slice_index_or xs j d) (slice_index_or xs k e)
pair_read Q xs j k a b d e in_j in_k h =
    subst (λ x. Q x (slice_index_or xs k e)) (get_or_default xs j a d in_j) (subst (λ y. Q (slice_index_or xs j a) y) (get_or_default xs k b e in_k) h)

module _ {P : Type 0} {live : P → Type 0} (date : P → ℤ) {order : P → P → Ordering} (law : IsOrderOn live order) (tokens : List (TokenRow P)) (all : All (IsLive live) tokens) (i : ℕ) (some : 0 < i) (within : i < length tokens) where
  pub dates_on : ((j k : ℕ) (d : TokenRow P) → j < k → k < i → k < length tokens → date (slice_index_or tokens j d).spot ≤ℤ date (slice_index_or tokens k d).spot)
      → ((d : TokenRow P) → date (slice_index_or tokens (i - 1) d).spot ≤ℤ date (slice_index_or tokens i d).spot)
      → (j k : ℕ) (d : TokenRow P) → j < k → k < i + 1 → k < length tokens → date (slice_index_or tokens j d).spot ≤ℤ date (slice_index_or tokens k d).spot
  dates_on up last j k d lt below there = elim (cases_lt k i) [
    | inl less ↦ up j k d lt less there
    | inr more ↦ (let same : i ≡ k = omega arith in
        let here = last d in
        subst (λ n. date (slice_index_or tokens j d).spot ≤ℤ date (slice_index_or tokens n d).spot) same
        (elim (cases_lt j (i - 1)) [
          | inl front ↦ let first = up j (i - 1) d front (omega arith) (omega arith) in omega (arith, ints)
          | inr next ↦ let one : i - 1 ≡ j = omega arith in subst (λ n. date (slice_index_or tokens n d).spot ≤ℤ date (slice_index_or tokens i d).spot) one here
        ]))
  ]

  pub before_on : ((j k : ℕ) (d : TokenRow P) → j < k → k < i → k < length tokens → order (slice_index_or tokens j d).spot (slice_index_or tokens k d).spot ≡ Less)
      → ((d : TokenRow P) → order (slice_index_or tokens (i - 1) d).spot (slice_index_or tokens i d).spot ≡ Less)
      → (j k : ℕ) (d : TokenRow P) → j < k → k < i + 1 → k < length tokens → order (slice_index_or tokens j d).spot (slice_index_or tokens k d).spot ≡ Less
  before_on up last j k d lt below there = elim (cases_lt k i) [
    | inl less ↦ up j k d lt less there
    | inr more ↦ (let same : i ≡ k = omega arith in
        subst (λ n. order (slice_index_or tokens j d).spot (slice_index_or tokens n d).spot ≡ Less) same
        (elim (cases_lt j (i - 1)) [
          | inl front ↦ law.trans (slice_index_or tokens j d).spot (slice_index_or tokens (i - 1) d).spot (slice_index_or tokens i d).spot (all j d (omega arith)).begin (all (i - 1) d (omega arith)).begin (all i d within).begin (up j (i - 1) d front (omega arith) (omega arith)) (last d)
          | inr next ↦ let one : i - 1 ≡ j = omega arith in subst (λ n. order (slice_index_or tokens n d).spot (slice_index_or tokens i d).spot ≡ Less) one (last d)
        ]))
  ]
