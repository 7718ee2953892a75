-- Tables of the distances of a list of premises, each made once, by which worked scripts compute
-- fast.
use Rattle.std.proofs.Common.{◌≡◌, ◌∙◌, ℕ, zero, suc, ◌-◌, Bool, true, false, List, [], ◌∷◌, map, length, pos, refl, sym, ap, cond}
use Rattle.std.specs.Bool.{Decides}
use Rattle.tmm_model.specs.declared.bound.Bound.{Bound}
use Rattle.tmm_model.specs.declared.bound.Bound.TheVariants.{Finite, Free}
use Rattle.tmm_model.specs.declared.point.PointName.{PointName}
use Rattle.tmm_model.specs.declared.premise.Premise.{Premise}
use Rattle.tmm_model.specs.Bounds.{lesser}
use Rattle.tmm_model.specs.Points.{same_point}
use Rattle.tmm_model.specs.Standing.{points_in, arcs_in, far_in, Standing}
use Rattle.tmm_model.specs.Walks.{Arc, least_first, far_within, far}
use Rattle.walk_theory.proofs.Points.{Decides-same_point}
use Rattle.tmm_model.specs.Maps.{TimeMap, map_with, built}

module _ {P : Type 0} (same : P → P → Bool) (arcs : List (Arc P)) where
  -- the distance from c to b over at most k constraints, where the row has it
  abbrev look : ℕ → P → List (P × Bound) → P → Bound
  look k b [] c = far_within same arcs k c b
  look k b (e ∷ row) c = elim (same e.0 c) [ true ↦ e.1 | false ↦ look k b row c ]

  -- the distances to b over no constraint, over one more than in the row, and over at most k
  abbrev first_row : P → List P → List (P × Bound)
  first_row b points = map (λ a. (a, cond (same a b) (Finite (pos 0)) Free)) points

  abbrev next_row : ℕ → P → List P → List (P × Bound) → List (P × Bound)
  next_row k b points row = map (λ a. (a, lesser (look k b row a) (least_first same arcs a (look k b row)))) points

  abbrev row_of : ℕ → P → List P → List (P × Bound)
  row_of zero b points = first_row b points
  row_of (suc k) b points = next_row k b points (row_of k b points)

  abbrev table : ℕ → List P → List (P × List (P × Bound))
  table n points = map (λ b. (b, row_of (n - 1) b points)) points

  abbrev looked : ℕ → List (P × List (P × Bound)) → P → P → Bound
  looked n [] a b = far same arcs n a b
  looked n (e ∷ rest) a b = elim (same e.0 b) [ true ↦ look (n - 1) e.0 e.1 a | false ↦ looked n rest a b ]

  abbrev IsRow : ℕ → P → List (P × Bound) → Type 0
  IsRow k b [] = Unit {0}
  IsRow k b (e ∷ row) = (e.1 ≡ far_within same arcs k e.0 b) × IsRow k b row

module _ {P : Type 0} (same : P → P → Bool) (decides : (x y : P) → Decides (same x y) (x ≡ y)) (arcs : List (Arc P)) where
  look-is : (k : ℕ) (b : P) (row : List (P × Bound)) → IsRow same arcs k b row → (c : P) → look same arcs k b row c ≡ far_within same arcs k c b
  look-is k b [] h c = refl
  look-is k b (e ∷ row) h c = by (look-is k b row h.1 c) (same e.0 c) refl
    where
      by : look same arcs k b row c ≡ far_within same arcs k c b → (t : Bool) → same e.0 c ≡ t → (elim t [ true ↦ e.1 | false ↦ look same arcs k b row c ]) ≡ far_within same arcs k c b
      by rest true is = h.0 ∙ ap (λ a. far_within same arcs k a b) ((decides e.0 c).0 is)
      by rest false is = rest

  first-IsRow : (b : P) (points : List P) → IsRow same arcs zero b (first_row same arcs b points)
  unfolding far_within
  first-IsRow b [] = tt
  first-IsRow b (p ∷ points) = (refl, first-IsRow b points)

  next-IsRow : (k : ℕ) (b : P) (row : List (P × Bound)) → IsRow same arcs k b row → (points : List P) → IsRow same arcs (suc k) b (next_row same arcs k b points row)
  unfolding far_within
  next-IsRow k b row h [] = tt
  next-IsRow k b row h (p ∷ points) =
      let all : look same arcs k b row ≡ (λ c. far_within same arcs k c b) = λ i c. look-is k b row h c i in
      ((λ i. lesser (all i p) (least_first same arcs p (all i))), next-IsRow k b row h points)

  row-IsRow : (k : ℕ) (b : P) (points : List P) → IsRow same arcs k b (row_of same arcs k b points)
  row-IsRow zero b points = first-IsRow b points
  row-IsRow (suc k) b points = next-IsRow k b (row_of same arcs k b points) (row-IsRow k b points) points

  looked-is : (n : ℕ) (points others : List P) (a b : P) → looked same arcs n (map (λ b. (b, row_of same arcs (n - 1) b points)) others) a b ≡ far same arcs n a b
  unfolding far
  looked-is n points [] a b = refl
  looked-is n points (p ∷ others) a b = by (looked-is n points others a b) (same p b) refl
    where
      by : looked same arcs n (map (λ b. (b, row_of same arcs (n - 1) b points)) others) a b ≡ far same arcs n a b → (t : Bool) → same p b ≡ t → (elim t [ true ↦ look same arcs (n - 1) p (row_of same arcs (n - 1) p points) a | false ↦ looked same arcs n (map (λ b. (b, row_of same arcs (n - 1) b points)) others) a b ]) ≡ far same arcs n a b
      by rest true is = look-is (n - 1) p (row_of same arcs (n - 1) p points) (row-IsRow (n - 1) p points) a ∙ ap (λ c. far_within same arcs (n - 1) a c) ((decides p b).0 is)
      by rest false is = rest

-- the distances of a list, looked up in a table of them
abbrev pub far_looked : List Premise → PointName → PointName → Bound
far_looked premises = looked same_point (arcs_in premises) (length (points_in premises)) (table same_point (arcs_in premises) (length (points_in premises)) (points_in premises))

-- what is computed by the table is what is meant
pub by_table : {A : Type 0} (f : (PointName → PointName → Bound) → A) (premises : List Premise) → f (far_in premises) ≡ f (far_looked premises)
by_table f premises = ap f (λ i a b. sym (looked-is same_point Decides-same_point (arcs_in premises) (length (points_in premises)) (points_in premises) (points_in premises) a b) i)

-- ---- maps of lists

-- the map of a list, with its distances in a table
abbrev pub tabled : Standing → TimeMap
tabled s = map_with s (far_looked s.premises)

-- what is computed of the map with the table is what is meant
pub of_map : {A : Type 0} (f : TimeMap → A) (s : Standing) → f (built s) ≡ f (tabled s)
of_map f s = by_table (λ far. f (map_with s far)) s.premises

pub of_maps : {A : Type 0} (f : TimeMap → TimeMap → A) (s t : Standing) → f (built s) (built t) ≡ f (tabled s) (tabled t)
of_maps f s t = of_map (λ m. f m (built t)) s ∙ of_map (f (tabled s)) t
