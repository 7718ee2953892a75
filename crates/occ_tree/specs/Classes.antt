-- Classes under small numbers.
use Rattle.std.specs.Prelude.{◌≡◌, ℕ, List, ◌++◌, Option, Some, None}
use Rattle.std.specs.List.{position}
use Rattle.tmm_model.specs.Points.{same_name}

-- the place of a class among others, none where it is not among them
abbrev pub place_in : List (List ℕ) → List ℕ → Option ℕ
place_in names class = position (same_name class) names

-- there may be more classes, behind those of before
abbrev pub HaveMore : List (List ℕ) → List (List ℕ) → Type 0
HaveMore old new = (more : List (List ℕ)) × (new ≡ old ++ more)

-- the number is that of the class, and there is none where there is no class
abbrev pub IsNumberOf : List (List ℕ) → Option (List ℕ) → Option ℕ → Type 0
IsNumberOf names None number = number ≡ None
IsNumberOf names (Some class) number = (k : ℕ) × (number ≡ Some k) × (place_in names class ≡ Some k)
