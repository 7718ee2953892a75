-- How input is cut into lines.
use Rattle.std.specs.Prelude.{ℕ, ◌≡◌, ◌≢◌, List, [], ◌∷◌, ◌++◌, All}
use Rattle.std.specs.List.{flat_map}

-- a line with its end, the byte 10
abbrev pub ended : List ℕ → List ℕ
ended line = line ++ 10 ∷ []

-- lines, each with its end
abbrev pub joined : List (List ℕ) → List ℕ
joined lines = flat_map ended lines

-- it has no byte 10
abbrev pub IsLine : List ℕ → Type 0
IsLine line = All (λ byte. byte ≢ 10) line

-- the text is these lines, each with its end, and then a rest without one
pub record SplitsIntoLines (text : List ℕ) (lines : List (List ℕ)) (rest : List ℕ) : Type 0 where
  pub whole : text ≡ joined lines ++ rest
  pub each : All IsLine lines
  pub last : IsLine rest

-- the rest is a line too where it has a byte
abbrev pub with_rest : List (List ℕ) → List ℕ → List (List ℕ)
with_rest lines [] = lines
with_rest lines (byte ∷ rest) = lines ++ (byte ∷ rest) ∷ []
