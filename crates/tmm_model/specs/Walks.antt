-- Constraints between points of any kind, dates that satisfy them and the tightest distances, as
-- of a simple temporal problem (Dechter, Meiri and Pearl 1991).
use Rattle.std.specs.Prelude.{◌≡◌, ℕ, zero, suc, ◌-◌, Bool, cond, List, [], ◌∷◌, ℤ, pos, ◌+ℤ◌, ◌-ℤ◌, ◌≤ℤ◌}
use Rattle.std.specs.List.{All}
use Rattle.tmm_model.specs.declared.bound.Bound.{Bound}
use Rattle.tmm_model.specs.declared.bound.Bound.TheVariants.{Finite, Free}
use Rattle.tmm_model.specs.Bounds.{lesser, after}

-- a constraint: the date of `to` is at most `weight` after the date of `from`
pub record Arc (P : Type 0) : Type 0 where
  pub from : P
  pub to : P
  pub weight : ℤ

module _ {P : Type 0} where
  -- the dates satisfy every constraint, and `start` is at 0
  pub record IsDates (start : P) (arcs : List (Arc P)) (date : P → ℤ) : Type 0 where
    pub at_start : date start ≡ pos 0
    pub met : All (λ e. (date e.to -ℤ date e.from) ≤ℤ e.weight) arcs

  -- some dates satisfy every constraint
  abbrev pub HasDates : P → List (Arc P) → Type 0
  HasDates start arcs = (date : P → ℤ) × IsDates start arcs date

  -- the sum of a walk
  abbrev pub total : List (Arc P) → ℤ
  total [] = pos 0
  total (e ∷ walk) = e.weight +ℤ total walk

-- what computes, where `same` tells whether two points are the same
module _ {P : Type 0} (same : P → P → Bool) where
  -- the least that a constraint of the list from a and then `rest` of its end give
  abbrev pub least_first : List (Arc P) → P → (P → Bound) → Bound
  least_first [] a rest = Free
  least_first (e ∷ arcs) a rest = lesser (cond (same e.from a) (after e.weight (rest e.to)) Free) (least_first arcs a rest)

  -- the least sum over all walks from a to b of at most k constraints
  unfoldable pub far_within : List (Arc P) → ℕ → P → P → Bound
  far_within arcs zero a b = cond (same a b) (Finite (pos 0)) Free
  far_within arcs (suc k) a b = lesser (far_within arcs k a b) (least_first arcs a (λ c. far_within arcs k c b))

  -- The tightest distance among n points: the least sum over all walks from a to b of at most n - 1
  -- constraints. Where the constraints have dates it is the least over all walks.
  unfoldable pub far : List (Arc P) → ℕ → P → P → Bound
  far arcs n a b = far_within arcs (n - 1) a b
