-- Stretches of tokens of one fact in a list.
use Rattle.std.specs.Prelude.{◌≡◌, ◌≢◌, ℕ, ◌+◌, ◌<◌, ◌≤◌, List, map, length, slice_index_or}
use Rattle.tmm_model.specs.declared.token.TokenRow.{TokenRow}
use Rattle.clipping.specs.declared.stretches.Stretched.{Stretched}

-- the tokens themselves
abbrev pub rows_of : {P : Type 0} → List (Stretched P) → List (TokenRow P)
rows_of = map (λ t. t.row)

-- the tokens from the place `first` on and before the place n are all of the fact; the one before
-- them is not
pub record IsStretch {P : Type 0} (rows : List (TokenRow P)) (fact : List ℕ) (first n : ℕ) : Type 0 where
  pub within : first ≤ n
  pub own : (i : ℕ) (d : TokenRow P) → first ≤ i → i < n → (slice_index_or rows i d).fact ≡ fact
  pub other : (i : ℕ) (d : TokenRow P) → i + 1 ≡ first → (slice_index_or rows i d).fact ≢ fact

-- beside each token stands where the stretch of tokens of its fact begins that goes up to it
abbrev pub HaveStretches : {P : Type 0} → List (Stretched P) → Type 0
HaveStretches {P} tokens =
    (n : ℕ) (d : Stretched P) → n < length tokens → IsStretch (rows_of tokens) (slice_index_or tokens n d).row.fact (slice_index_or tokens n d).first n
