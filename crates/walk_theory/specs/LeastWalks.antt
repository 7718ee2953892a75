-- Walks over constraints, and the least sum over all walks between two points (Dechter, Meiri and
-- Pearl 1991).
use Rattle.std.specs.Prelude.{ℕ, ℤ, pos, ◌+ℤ◌, ◌≤ℤ◌, ◌≡◌, ◌≤◌, List, [], ◌∷◌, length, ◌<ℤ◌, ◌⊎◌}
use Rattle.std.specs.List.{All, Contains}
use Rattle.tmm_model.specs.declared.bound.Bound.{Bound}
use Rattle.tmm_model.specs.declared.bound.Bound.TheVariants.{Finite, Free}
use Rattle.tmm_model.specs.Bounds.{IfFinite, lesser, IsWithin}
use Rattle.tmm_model.specs.Types.{through}
use Rattle.tmm_model.specs.Walks.{Arc, total, far}

-- the bound is a number that is at most s
abbrev pub AtMost : Bound → ℤ → Type 0
AtMost (Finite x) s = x ≤ℤ s
AtMost Free s = ⊥

-- a step of weight w before the bound closes no walk of negative sum
abbrev pub ClosesNoNegativeCycle : ℤ → Bound → Type 0
ClosesNoNegativeCycle w (Finite x) = pos 0 ≤ℤ (w +ℤ x)
ClosesNoNegativeCycle w Free = Unit {0}

-- the constraint between the points that f gives its own
abbrev pub renamed : {P Q : Type 0} → (P → Q) → Arc P → Arc Q
renamed f e = record { from = f e.from; to = f e.to; weight = e.weight }

module _ {P : Type 0} where
  -- the constraints of the walk stand in the list, and lead one after the other from a to b
  abbrev pub IsWalk : List (Arc P) → P → P → List (Arc P) → Type 0
  IsWalk arcs a b [] = a ≡ b
  IsWalk arcs a b (e ∷ walk) = Contains arcs e × (e.from ≡ a) × IsWalk arcs e.to b walk

  -- some walk from a to b has the sum s
  abbrev pub HasWalk : List (Arc P) → P → P → ℤ → Type 0
  HasWalk arcs a b s = (walk : List (Arc P)) × IsWalk arcs a b walk × (total walk ≡ s)

  -- some closed walk has a negative sum
  abbrev pub HasNegativeCycle : List (Arc P) → Type 0
  HasNegativeCycle arcs = (a : P) × (walk : List (Arc P)) × IsWalk arcs a a walk × (total walk <ℤ pos 0)

  -- the bound is the least sum over all walks from a to b, and none exactly where there is no walk
  pub record IsFar (arcs : List (Arc P)) (a b : P) (far : Bound) : Type 0 where
    pub reached : IfFinite far (HasWalk arcs a b)
    pub least : (walk : List (Arc P)) → IsWalk arcs a b walk → AtMost far (total walk)

  -- the bound is the least sum over the walks from a to b of at most k constraints
  pub record IsFarWithin (arcs : List (Arc P)) (k : ℕ) (a b : P) (far : Bound) : Type 0 where
    pub reached : IfFinite far (λ s. (walk : List (Arc P)) × IsWalk arcs a b walk × (length walk ≤ k) × (total walk ≡ s))
    pub least : (walk : List (Arc P)) → IsWalk arcs a b walk → length walk ≤ k → AtMost far (total walk)

  -- the points that a walk to b visits, b last
  abbrev pub points : List (Arc P) → P → List P
  points [] b = b ∷ []
  points (e ∷ walk) b = e.from ∷ points walk b

  -- every constraint is between two of the points
  abbrev pub AreAmong : List P → List (Arc P) → Type 0
  AreAmong known arcs = All (λ e. Contains known e.from × Contains known e.to) arcs

  -- every weight is at most m in absolute value
  abbrev pub AreLight : ℕ → List (Arc P) → Type 0
  AreLight m arcs = All (λ e. IsWithin m e.weight) arcs

  -- the constraints of new are those of old and e
  pub record Adds (old : List (Arc P)) (e : Arc P) (new : List (Arc P)) : Type 0 where
    pub kept : (x : Arc P) → Contains old x → Contains new x
    pub added : Contains new e
    pub only : (x : Arc P) → Contains new x → Contains old x ⊎ (x ≡ e)

  -- the distances closed by the constraint e: the old one, or one through it
  abbrev pub closed : (P → P → Bound) → Arc P → P → P → Bound
  closed table e a b = lesser (table a b) (through (table a e.from) e.weight (table e.to b))
