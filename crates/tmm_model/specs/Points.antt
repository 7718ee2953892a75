-- Declared points, and points and occurrences as words of a script.
use Rattle.std.specs.Prelude.{ℕ, Bool, true, false, List, [], ◌∷◌, ◌++◌, codes, nat_eq}
use Rattle.std.specs.Cmp.Lexicographic.{pointwise}
use Rattle.tmm_model.specs.declared.point.PointName.{PointName}
use Rattle.tmm_model.specs.declared.point.PointName.TheVariants.{Start, Begin, End}
use Rattle.tmm_model.specs.declared.point.Occ.{Occ}
use Rattle.tmm_model.specs.declared.point.QueryPoint.{QueryPoint}
use Rattle.tmm_model.specs.declared.point.QueryPoint.TheVariants.{Declared, Derived}

-- whether two names have the same bytes
abbrev pub same_name : List ℕ → List ℕ → Bool
same_name a b = pointwise nat_eq a b

-- whether two declared points are the same
abbrev pub same_point : PointName → PointName → Bool
same_point Start Start = true
same_point (Begin a) (Begin b) = same_name a b
same_point (End a) (End b) = same_name a b
same_point _ _ = false

-- the word for a declared point
abbrev pub point_word : PointName → List ℕ
point_word Start = codes "start"
point_word (Begin k) = k
point_word (End k) = k ++ codes ".end"

-- each name behind a `/`
abbrev pub slashed : List (List ℕ) → List ℕ
slashed [] = []
slashed (r ∷ rules) = 47 ∷ r ++ slashed rules

-- the word for an occurrence: the root and the rules, parted by `/`
abbrev pub occ_word : Occ → List ℕ
occ_word o = o.root ++ slashed o.rules.items

-- the word for a point that a query names
abbrev pub query_word : QueryPoint → List ℕ
query_word (Declared p) = point_word p
query_word (Derived o) = occ_word o
