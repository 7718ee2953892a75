-- How a refusal names what is refused.
use Rattle.std.specs.Prelude.{◌≡◌, ℕ, List, [], ◌∷◌}
use Rattle.tmm_model.specs.declared.point.Occ.{Occ}
use Rattle.tmm_model.specs.declared.point.PointName.TheVariants.{Begin}
use Rattle.tmm_model.specs.declared.point.QueryPoint.{QueryPoint}
use Rattle.tmm_model.specs.declared.point.QueryPoint.TheVariants.{Declared, Derived}
use Rattle.tmm_model.specs.declared.refusal.Refusal.{Refusal}
use Rattle.tmm_model.specs.declared.refusal.Refusal.TheVariants.{Unknown, Sort as IllSorted}

-- the same declared point, or the same derived occurrence
abbrev pub IsSamePoint : QueryPoint → QueryPoint → Type 0
IsSamePoint (Declared p) (Declared q) = p ≡ q
IsSamePoint (Derived o) (Derived u) = (o.root ≡ u.root) × (o.rules.items ≡ u.rules.items)
IsSamePoint _ _ = ⊥

-- the refusal is of a word that is unknown or of another sort, and names it as this very point
abbrev pub Names : QueryPoint → Refusal → Type 0
Names point (Unknown named) = IsSamePoint named point
Names point (IllSorted named) = IsSamePoint named point
Names point _ = ⊥

-- an occurrence with these rules as a question names it as a point
abbrev pub point_of : Occ → List (List ℕ) → QueryPoint
point_of o [] = Declared (Begin o.root)
point_of o (r ∷ rules) = Derived o
