-- Sets of points, by their numbers below 256.
use Rattle.std.specs.Prelude.{◌≡◌, ◌⊎◌, ℕ, ◌<◌, ◌+◌, ◌*◌, Bool, true, false, List, length, slice_index_or}
use Rattle.std.specs.List.{All, Contains}

-- whether a number is in the set
abbrev pub is_in : List Bool → ℕ → Bool
is_in set p = slice_index_or set p false

-- these numbers are put into the set, and no others
pub record PutsIn (P : ℕ → Type 0) (old new : List Bool) : Type 0 where
  pub own : (p : ℕ) → is_in new p ≡ true → (is_in old p ≡ true) ⊎ P p
  pub kept : (p : ℕ) → is_in old p ≡ true → is_in new p ≡ true
  pub all : (p : ℕ) → P p → is_in new p ≡ true
  pub places : length new ≡ length old

-- the set has exactly these numbers
pub record AreThose (P : ℕ → Type 0) (set : List Bool) : Type 0 where
  pub own : (p : ℕ) → is_in set p ≡ true → P p
  pub all : (p : ℕ) → P p → is_in set p ≡ true
  pub places : length set ≡ 256

-- some number is in both sets
abbrev pub Meet : List Bool → List Bool → Type 0
Meet a b = (p : ℕ) × (p < 256) × (is_in a p ≡ true) × (is_in b p ≡ true)

-- a set of pairs: whether the pair of two numbers below 256 is in it
abbrev pub has_pair : List Bool → ℕ → ℕ → Bool
has_pair pairs a b = is_in pairs (a * 256 + b)

-- the set has exactly the pairs of which this is so
pub record AreThosePairs (is : ℕ → ℕ → Bool) (pairs : List Bool) : Type 0 where
  pub each : (a b : ℕ) → a < 256 → b < 256 → has_pair pairs a b ≡ is a b
  pub places : length pairs ≡ 65536

-- each pair has one of these points, all of which have a number below 256
pub record HaveOneOf (points : List ℕ) (pairs : List Bool) : Type 0 where
  pub below : All (λ p. p < 256) points
  pub each : (a b : ℕ) → a < 256 → b < 256 → has_pair pairs a b ≡ true → Contains points a ⊎ Contains points b

-- both points of each pair are in the set
abbrev pub HaveBothIn : List Bool → List Bool → Type 0
HaveBothIn pairs points = (a b : ℕ) → a < 256 → b < 256 → has_pair pairs a b ≡ true → (is_in points a ≡ true) × (is_in points b ≡ true)
