-- Upper bounds on the distance between two points, in whole time units: a number, or none.
use Rattle.std.specs.Prelude.{ℕ, ℤ, pos, neg_ℤ, ◌+ℤ◌, ◌-ℤ◌, ◌≤ℤ◌, int_le, Bool, false}
use Rattle.std.specs.Int.{int_min}
use Rattle.tmm_model.specs.declared.bound.Bound.{Bound}
use Rattle.tmm_model.specs.declared.bound.Bound.TheVariants.{Finite, Free}

-- the bound is a number, and P holds of it; nothing is said of no bound
abbrev pub IfFinite : Bound → (ℤ → Type 0) → Type 0
IfFinite (Finite x) P = P x
IfFinite Free P = Unit {0}

-- the same as a test
abbrev pub bound_at_most : Bound → ℤ → Bool
bound_at_most (Finite x) s = int_le x s
bound_at_most Free s = false

-- the less of two bounds
abbrev pub lesser : Bound → Bound → Bound
lesser (Finite x) (Finite y) = Finite (int_min x y)
lesser (Finite x) Free = Finite x
lesser Free y = y

-- one bound and then another, none where a part is none
abbrev pub bound_plus : Bound → Bound → Bound
bound_plus (Finite x) (Finite y) = Finite (x +ℤ y)
bound_plus (Finite x) Free = Free
bound_plus Free y = Free

-- the bound, less a number
abbrev pub bound_less : Bound → ℤ → Bound
bound_less (Finite x) w = Finite (x -ℤ w)
bound_less Free w = Free

-- a step of weight w and then the bound
abbrev pub after : ℤ → Bound → Bound
after w (Finite x) = Finite (w +ℤ x)
after w Free = Free

-- the number with its sign turned, and none where there is none
abbrev pub bound_negated : Bound → Bound
bound_negated (Finite x) = Finite (neg_ℤ x)
bound_negated Free = Free

-- the number is at most m in absolute value
abbrev pub IsWithin : ℕ → ℤ → Type 0
IsWithin m x = (neg_ℤ (pos m) ≤ℤ x) × (x ≤ℤ pos m)
