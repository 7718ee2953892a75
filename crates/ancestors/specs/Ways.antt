-- Ways from a root to a node of a tree: the numbers of the nodes on them, the root first and the
-- node last.
use Rattle.std.specs.Prelude.{◌≡◌, ℕ, cond, eqb, ◌<◌, List, [], ◌∷◌, ◌++◌, length}

-- the number is of a node
abbrev pub IsNode : (ℕ → List ℕ) → ℕ → Type 0
IsNode way x = 0 < length (way x)

-- the way ends with the node
abbrev pub EndsWith : List ℕ → ℕ → Type 0
EndsWith way x = (front : List ℕ) × (way ≡ front ++ x ∷ [])

-- the nodes with which both ways begin
abbrev pub shared_front : List ℕ → List ℕ → List ℕ
shared_front [] v = []
shared_front (x ∷ u) [] = []
shared_front (x ∷ u) (y ∷ v) = cond (eqb x y) (x ∷ shared_front u v) []
