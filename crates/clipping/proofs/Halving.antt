-- A place that halving finds among tokens in the order of their dates.
use Rattle.std.proofs.Common.{◌≡◌, ◌≢◌, ◌∙◌, ℕ, ◌+◌, ◌<◌, ◌≤◌, inl, inr, true, false, List, length, refl, sym, subst, ap, arith}
use Rattle.std.proofs.lemmas.Int.{ints}
use Rattle.std.proofs.lemmas.Bool.{cases_order}
use Rattle.std.specs.Prelude.{ℤ, ◌<ℤ◌, ◌≤ℤ◌, slice_index_or}
use Rattle.std.specs.List.{All}
use Rattle.std.specs.declared.cmp.Ordering.{Ordering}
use Rattle.std.specs.declared.cmp.Ordering.TheVariants.{Less, Equal, Greater}
use Rattle.std.specs.Ordering.{is_lt, is_eq, ordering_reverse}
use Rattle.tmm_model.specs.declared.token.TokenRow.{TokenRow}
use Rattle.tmm_model.specs.Types.{IsOrderOn}
use Rattle.clipping.specs.Live.{IsLive}
use Rattle.clipping.specs.ByDate.{IsByDate, AreBefore}

pub is_less : (r : Ordering) → is_lt r ≡ true → r ≡ Less
is_less Less e = refl
is_less Equal e = cc
is_less Greater e = cc

pub no_less : (r : Ordering) → is_lt r ≡ false → r ≢ Less
no_less r e same = let less : is_lt r ≡ true = ap is_lt same in cc

pub no_tie : (r : Ordering) → is_eq r ≡ false → r ≢ Equal
no_tie r e same = let tie : is_eq r ≡ true = ap is_eq same in cc

module _ {P : Type 0} {date : P → ℤ} {order : P → P → Ordering} (tokens : List (TokenRow P)) (sorted : IsByDate date order tokens) where
  -- ---- by the date in the middle

  pub first_more : (i : ℕ) (until : ℤ) → i < length tokens → ((d : TokenRow P) → date (slice_index_or tokens i d).spot ≤ℤ until)
      → (j : ℕ) (d : TokenRow P) → j < i + 1 → date (slice_index_or tokens j d).spot ≤ℤ until
  first_more i until within here j d lt = elim (cases_order j i) [
    | inl same ↦ subst (λ k. date (slice_index_or tokens k d).spot ≤ℤ until) (sym same) (here d)
    | inr other ↦ elim other [
      | inl less ↦ let up = sorted.dates j i d less within in let at = here d in omega (arith, ints)
      | inr more ↦ absurd (omega arith)
    ]
  ]

  pub rest_more : (i : ℕ) (until : ℤ) → i < length tokens → ((d : TokenRow P) → until <ℤ date (slice_index_or tokens i d).spot)
      → (j : ℕ) (d : TokenRow P) → i ≤ j → j < length tokens → until <ℤ date (slice_index_or tokens j d).spot
  rest_more i until within here j d le lt = elim (cases_order j i) [
    | inl same ↦ subst (λ k. until <ℤ date (slice_index_or tokens k d).spot) (sym same) (here d)
    | inr other ↦ elim other [
      | inl less ↦ absurd (omega arith)
      | inr more ↦ let up = sorted.dates i j d more lt in let at = here d in omega (arith, ints)
    ]
  ]

  -- ---- by the spot in the middle

  module _ {live : P → Type 0} (law : IsOrderOn live order) (all : All (IsLive live) tokens) (spot : P) (there : live spot) where
    pub before_more : (i : ℕ) → i < length tokens → ((d : TokenRow P) → order (slice_index_or tokens i d).spot spot ≡ Less)
        → (j : ℕ) (d : TokenRow P) → j < i + 1 → order (slice_index_or tokens j d).spot spot ≡ Less
    before_more i within here j d lt = elim (cases_order j i) [
      | inl same ↦ subst (λ k. order (slice_index_or tokens k d).spot spot ≡ Less) (sym same) (here d)
      | inr other ↦ elim other [
        | inl less ↦ law.trans (slice_index_or tokens j d).spot (slice_index_or tokens i d).spot spot (all j d (omega arith)).begin (all i d within).begin there (sorted.before j i d less within) (here d)
        | inr more ↦ absurd (omega arith)
      ]
    ]

    pub behind_more : (i : ℕ) → i < length tokens → ((d : TokenRow P) → order (slice_index_or tokens i d).spot spot ≢ Less)
        → (j : ℕ) (d : TokenRow P) → i ≤ j → j < length tokens → order (slice_index_or tokens j d).spot spot ≢ Less
    behind_more i within here j d le lt less = elim (cases_order j i) [
      | inl same ↦ here d (subst (λ k. order (slice_index_or tokens k d).spot spot ≡ Less) same less)
      | inr other ↦ elim other [
        | inl fewer ↦ absurd (omega arith)
        | inr more ↦ here d (law.trans (slice_index_or tokens i d).spot (slice_index_or tokens j d).spot spot (all i d within).begin (all j d lt).begin there (sorted.before i j d more lt) less)
      ]
    ]

    own_tie : (x : P) → live x → order x x ≡ Equal
    own_tie x lx = by (order x x) refl (law.antisymm x x lx lx)
      where
        by : (r : Ordering) → order x x ≡ r → order x x ≡ ordering_reverse (order x x) → order x x ≡ Equal
        by Less e q = let t : Less ≡ Greater = sym e ∙ q ∙ ap ordering_reverse e in cc
        by Equal e q = e
        by Greater e q = let t : Greater ≡ Less = sym e ∙ q ∙ ap ordering_reverse e in cc

    -- where the first token that is not before the spot does not begin there, none does
    pub not_there : (n : ℕ) → AreBefore order tokens spot n → (n < length tokens → (d : TokenRow P) → order (slice_index_or tokens n d).spot spot ≢ Equal)
        → (i : ℕ) (d : TokenRow P) → i < length tokens → (slice_index_or tokens i d).spot ≢ spot
    not_there n are apart i d within same = elim (cases_order i n) [
      | inl here ↦ apart (omega arith) d (subst (λ k. order (slice_index_or tokens k d).spot spot ≡ Equal) here tied)
      | inr other ↦ elim other [
        | inl less ↦ let before : order (slice_index_or tokens i d).spot spot ≡ Less = are.first i d less in cc (tied)
        | inr more ↦ are.rest n d (omega arith) (omega arith) (subst (λ x. order (slice_index_or tokens n d).spot x ≡ Less) same (sorted.before n i d more within))
      ]
    ]
      where
        tied : order (slice_index_or tokens i d).spot spot ≡ Equal
        tied = subst (λ x. order x spot ≡ Equal) (sym same) (own_tie spot there)
