-- The numbers of points under their names.
use Rattle.std.specs.Prelude.{◌≡◌, ℕ, List, cond, slice_index_or, Option, Some, None}
use Rattle.std.specs.Map.{lookup}
use Rattle.tmm_model.specs.declared.point.PointName.{PointName}
use Rattle.tmm_model.specs.Points.{same_point}

-- under the name of p, if it is in use, stands p
abbrev pub IsIndexed : List (Option PointName) → List (PointName × ℕ) → ℕ → Type 0
IsIndexed names entries p = (name : PointName) → slice_index_or names p None ≡ Some name → lookup (same_point name) entries ≡ Some p

-- under each name of a point stands its number; other names may stand there too
abbrev pub AreIndexed : List (Option PointName) → List (PointName × ℕ) → Type 0
AreIndexed names entries = (p : ℕ) → IsIndexed names entries p

-- under the name stands p, and under all others what stood there before
abbrev pub IsNoted : List (PointName × ℕ) → PointName → ℕ → List (PointName × ℕ) → Type 0
IsNoted old name p new = (q : PointName) → lookup (same_point q) new ≡ cond (same_point name q) (Some p) (lookup (same_point q) old)
