-- Tokens in the order of their earliest dates.
use Rattle.std.specs.Prelude.{◌≡◌, ◌≢◌, ℕ, ◌<◌, ◌≤◌, ℤ, ◌+ℤ◌, ◌<ℤ◌, ◌≤ℤ◌, Bool, false, List, length, IsTrue, Option, MatchOption, slice_index_or}
use Rattle.std.specs.declared.cmp.Ordering.{Ordering}
use Rattle.std.specs.declared.cmp.Ordering.TheVariants.{Less}
use Rattle.tmm_model.specs.declared.bound.Bound.{Bound}
use Rattle.tmm_model.specs.Bounds.{IfFinite}
use Rattle.tmm_model.specs.declared.token.TokenRow.{TokenRow}

-- dates of what is live that meet the distances: none is later than its distance from another
-- allows
pub record AreDatesOn {P : Type 0} (live : P → Type 0) (far : P → P → Bound) (date : P → ℤ) : Type 0 where
  pub met : (p q : P) → live p → live q → IfFinite (far p q) (λ w. date q ≤ℤ (date p +ℤ w))

-- the tokens stand by date: dates do not fall from one to the next, and each is before those behind
-- it
pub record IsByDate {P : Type 0} (date : P → ℤ) (order : P → P → Ordering) (tokens : List (TokenRow P)) : Type 0 where
  pub dates : (i j : ℕ) (d : TokenRow P) → i < j → j < length tokens → date (slice_index_or tokens i d).spot ≤ℤ date (slice_index_or tokens j d).spot
  pub before : (i j : ℕ) (d : TokenRow P) → i < j → j < length tokens → order (slice_index_or tokens i d).spot (slice_index_or tokens j d).spot ≡ Less

-- the first n tokens are those that begin at a date or before it
pub record AreUntil {P : Type 0} (date : P → ℤ) (tokens : List (TokenRow P)) (until : ℤ) (n : ℕ) : Type 0 where
  pub within : n ≤ length tokens
  pub first : (i : ℕ) (d : TokenRow P) → i < n → date (slice_index_or tokens i d).spot ≤ℤ until
  pub rest : (i : ℕ) (d : TokenRow P) → n ≤ i → i < length tokens → until <ℤ date (slice_index_or tokens i d).spot

-- ---- what passes a test from one place on and before another

-- none of them does
abbrev pub NonePass : {A : Type 0} → (A → Bool) → List A → ℕ → ℕ → Type 0
NonePass {A} test xs low high = (i : ℕ) (d : A) → low ≤ i → i < high → test (slice_index_or xs i d) ≡ false

-- i is a place where it passes
pub record IsPlaceIn {A : Type 0} (test : A → Bool) (xs : List A) (low high i : ℕ) : Type 0 where
  pub from : low ≤ i
  pub before : i < high
  pub passes : (d : A) → IsTrue (test (slice_index_or xs i d))

-- a place where it passes, none exactly where none does
abbrev pub IsAnyPlaceIn : {A : Type 0} → (A → Bool) → List A → ℕ → ℕ → Option ℕ → Type 0
IsAnyPlaceIn test xs low high place = MatchOption place (NonePass test xs low high) (IsPlaceIn test xs low high)

-- the first such place, none exactly where none does
abbrev pub IsFirstPlaceIn : {A : Type 0} → (A → Bool) → List A → ℕ → ℕ → Option ℕ → Type 0
IsFirstPlaceIn test xs low high place = MatchOption place (NonePass test xs low high) (λ i. IsPlaceIn test xs low high i × NonePass test xs low i)

-- ---- a place by the order

-- the first n tokens are those before a spot
pub record AreBefore {P : Type 0} (order : P → P → Ordering) (tokens : List (TokenRow P)) (spot : P) (n : ℕ) : Type 0 where
  pub within : n ≤ length tokens
  pub first : (i : ℕ) (d : TokenRow P) → i < n → order (slice_index_or tokens i d).spot spot ≡ Less
  pub rest : (i : ℕ) (d : TokenRow P) → n ≤ i → i < length tokens → order (slice_index_or tokens i d).spot spot ≢ Less

-- the place of the token that begins at the spot, none exactly where no token does
abbrev pub IsPlaceOf : {P : Type 0} → List (TokenRow P) → P → Option ℕ → Type 0
IsPlaceOf {P} tokens spot place =
    MatchOption place ((i : ℕ) (d : TokenRow P) → i < length tokens → (slice_index_or tokens i d).spot ≢ spot) (λ i. (i < length tokens) × ((d : TokenRow P) → (slice_index_or tokens i d).spot ≡ spot))
