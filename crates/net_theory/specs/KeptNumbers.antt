-- Which points have numbers, and which keep theirs.
use Rattle.std.specs.Prelude.{ℕ, List}
use Rattle.std.specs.List.{Contains}
use Rattle.tmm_model.specs.declared.point.PointName.{PointName}
use Rattle.net_theory.specs.Represents.{Names, IsNumberOf}

-- no number is that of the point
abbrev pub IsNew : Names → PointName → Type 0
IsNew names p = (k : ℕ) → IsNumberOf names k p → ⊥

-- some number is that of the point
abbrev pub IsThere : Names → PointName → Type 0
IsThere names p = (n : ℕ) × IsNumberOf names n p

-- every number in use keeps its point
abbrev pub KeepsNumbers : Names → Names → Type 0
KeepsNumbers old new = (k : ℕ) (p : PointName) → IsNumberOf old k p → IsNumberOf new k p

-- each of these points keeps its number
abbrev pub PointsKeepNumbers : List PointName → Names → Names → Type 0
PointsKeepNumbers points old new = (k : ℕ) (p : PointName) → Contains points p → IsNumberOf old k p → IsNumberOf new k p
