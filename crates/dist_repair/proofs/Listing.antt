-- The places at which a point stands, gone through from the last to the first.
use Rattle.std.proofs.Common.{◌≡◌, inl, inr, ℕ, ◌+◌, ◌<◌, ◌≤◌, List, Option, None, Some, length, refl, subst, arith}
use Rattle.std.specs.Prelude.{MatchOption}
use Rattle.std.proofs.lemmas.Bool.{cases_lt}
use Rattle.dist_repair.specs.Ends.{number_at, IsLastOf}

-- how many places are not behind this one: none where there is none
abbrev pub places_to : Option ℕ → ℕ
places_to at = elim at [ None ↦ 0 | Some i ↦ i + 1 ]

-- the place is one of the point p, if there is one
abbrev pub IsAt : List ℕ → ℕ → Option ℕ → Type 0
IsAt numbers p at = MatchOption at (Unit {0}) (λ i. (i < length numbers) × (number_at numbers i ≡ p))

-- the last place of p among the first n is one of p
pub IsAt-last : (numbers : List ℕ) (p n : ℕ) (at : Option ℕ) → n ≤ length numbers → IsLastOf numbers p n at → IsAt numbers p at
IsAt-last numbers p n None short is = tt
IsAt-last numbers p n (Some i) short is = (omega (arith, is.before, short), is.number)

-- the next place is one of p, and is before this one
module _ (numbers : List ℕ) (p i : ℕ) (here : IsAt numbers p (Some i)) (next : Option ℕ) (before : IsLastOf numbers (number_at numbers i) i next) where
  pub before_this : IsLastOf numbers p i next
  before_this = subst (λ (q : ℕ). IsLastOf numbers q i next) here.1 before

  pub IsAt-before : IsAt numbers p next
  IsAt-before = IsAt-last numbers p i next (omega (arith, here.0)) before_this

pub not_behind : (numbers : List ℕ) (p n : ℕ) (at : Option ℕ) (j : ℕ) → IsLastOf numbers p n at → j < n → number_at numbers j ≡ p → j < places_to at
not_behind numbers p n None j is below same = absurd (is j below same)
not_behind numbers p n (Some i) j is below same = elim (cases_lt i j) [ inl behind ↦ absurd (is.last j behind below same) | inr not_after ↦ omega (arith, not_after) ]

pub none_to : (at : Option ℕ) → ((i : ℕ) → at ≡ Some i → ⊥) → places_to at ≡ 0
none_to None none = refl
none_to (Some i) none = absurd (none i refl)
