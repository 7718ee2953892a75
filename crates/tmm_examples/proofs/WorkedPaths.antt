-- Walks that give distances, and a cycle.
use Rattle.std.proofs.Common.{◌≡◌, ◌++◌, List, [], ◌∷◌, pos, negsuc, inl, inr, refl, sym, subst, arith}
use Rattle.std.specs.Prelude.{codes}
use Rattle.std.specs.List.{All, Contains, IsDistinct}
use Rattle.std.proofs.lemmas.Int.{ints}
use Rattle.tmm_model.specs.declared.bound.Bound.TheVariants.{Finite, Free}
use Rattle.tmm_model.specs.declared.point.PointName.TheVariants.{Start, Begin}
use Rattle.tmm_model.specs.declared.premise.Premise.{Premise}
use Rattle.tmm_model.specs.declared.premise.Premise.TheVariants.{Point, Dist}
use Rattle.tmm_model.specs.declared.walk.Side.TheVariants.{Hi, Lo}
use Rattle.tmm_model.specs.declared.walk.WalkStep.{WalkStep}
use Rattle.tmm_model.specs.Maps.{built, gap}
use Rattle.tmm_model.specs.Moments.{At}
use Rattle.tmm_model.specs.Cycles.{steps_in, IsPath, IsCycleOf}
use Rattle.tmm_model.specs.Paths.{GivesPath}
use Rattle.tmm_model.specs.Standing.{Standing, far_in}
use Rattle.belief_theory.proofs.FarTables.{by_table, of_map}
use Rattle.tmm_examples.proofs.WorkedScripts.{within, root}
use Rattle.tmm_model.specs.Bounds.{after}
use Rattle.list_theory.proofs.Elements.{In-from_Contains}
use Rattle.walk_theory.proofs.Members.{All-from_contains}

-- point a / point b / dist d a b 3 7 / point c / dist e b c 2 4
abbrev three : List Premise
three =
    Point (codes "a") ∷ Point (codes "b")
    ∷ Dist (codes "d") (Begin (codes "a")) (Begin (codes "b")) (Finite (pos 3)) (Finite (pos 7))
    ∷ Point (codes "c")
    ∷ Dist (codes "e") (Begin (codes "b")) (Begin (codes "c")) (Finite (pos 2)) (Finite (pos 4)) ∷ []

distances : (far_in three (Begin (codes "a")) (Begin (codes "b")) ≡ Finite (pos 7))
    × (far_in three (Begin (codes "b")) (Begin (codes "a")) ≡ Finite (negsuc 2))
    × (far_in three (Begin (codes "a")) (Begin (codes "c")) ≡ Finite (pos 11))
    × (far_in three (Begin (codes "c")) (Begin (codes "a")) ≡ Finite (negsuc 4))
    × (far_in three Start (Begin (codes "a")) ≡ Free)
    × (far_in three (Begin (codes "a")) Start ≡ Finite (pos 0))
distances = (
  by_table (λ far. far (Begin (codes "a")) (Begin (codes "b"))) three,
  by_table (λ far. far (Begin (codes "b")) (Begin (codes "a"))) three,
  by_table (λ far. far (Begin (codes "a")) (Begin (codes "c"))) three,
  by_table (λ far. far (Begin (codes "c")) (Begin (codes "a"))) three,
  by_table (λ far. far Start (Begin (codes "a"))) three,
  by_table (λ far. far (Begin (codes "a")) Start) three,
)

-- dist d a b 3 7, and dist e b c 2 4, from above and from below
abbrev d_hi : WalkStep
d_hi = record { premise = codes "d"; side = Hi; from = Begin (codes "a"); to = Begin (codes "b"); weight = pos 7 }

abbrev e_hi : WalkStep
e_hi = record { premise = codes "e"; side = Hi; from = Begin (codes "b"); to = Begin (codes "c"); weight = pos 4 }

abbrev d_lo : WalkStep
d_lo = record { premise = codes "d"; side = Lo; from = Begin (codes "b"); to = Begin (codes "a"); weight = negsuc 2 }

abbrev e_lo : WalkStep
e_lo = record { premise = codes "e"; side = Lo; from = Begin (codes "c"); to = Begin (codes "b"); weight = negsuc 1 }

two : {X : Type 0} (F : X → Type 0) (x y : X) → F x → F y → All F (x ∷ y ∷ [])
two F x y fx fy =
    All-from_contains F (x ∷ y ∷ []) (λ z at.
    elim (In-from_Contains (x ∷ y ∷ []) z at) [ inl is ↦ subst F is fx | inr rest ↦ elim rest [ inl is ↦ subst F is fy | inr none ↦ absurd none ] ])

abbrev map : Standing
map = within 1000 three

up : IsPath (steps_in three) (Begin (codes "a")) (Begin (codes "c")) (d_hi ∷ e_hi ∷ [])
unfolding IsDistinct
up = record {
  own = two (Contains (steps_in three)) d_hi e_hi (2, omega arith, refl) (5, omega arith, refl);
  leads = (refl, (refl, refl));
  distinct = ((refl, (refl, tt)), ((refl, tt), (tt, tt)));
}

down : IsPath (steps_in three) (Begin (codes "c")) (Begin (codes "a")) (e_lo ∷ d_lo ∷ [])
unfolding IsDistinct
down = record {
  own = two (Contains (steps_in three)) e_lo d_lo (6, omega arith, refl) (3, omega arith, refl);
  leads = (refl, (refl, refl));
  distinct = ((refl, (refl, tt)), ((refl, tt), (tt, tt)));
}

-- path a c, path c a, path start a
path_up : GivesPath (built map) (root (codes "a")) (root (codes "c")) (Finite (pos 11)) (d_hi ∷ e_hi ∷ [])
path_up = record {
  bound = sym (of_map (λ m. gap m (root (codes "a")) (root (codes "c"))) map);
  walk = record { path = up; least = by_table (λ far. far (Begin (codes "a")) (Begin (codes "c"))) three };
}

path_down : GivesPath (built map) (root (codes "c")) (root (codes "a")) (Finite (negsuc 4)) (e_lo ∷ d_lo ∷ [])
path_down = record {
  bound = sym (of_map (λ m. gap m (root (codes "c")) (root (codes "a"))) map);
  walk = record { path = down; least = by_table (λ far. far (Begin (codes "c")) (Begin (codes "a"))) three };
}

no_path : GivesPath (built map) (At Start) (root (codes "a")) Free []
no_path = record { bound = sym (of_map (λ m. gap m (At Start) (root (codes "a"))) map); walk = refl }

-- ---- dist x c a 0 * would have a at or after c
abbrev backwards : Premise
backwards = Dist (codes "x") (Begin (codes "c")) (Begin (codes "a")) (Finite (pos 0)) Free

abbrev x_lo : WalkStep
x_lo = record { premise = codes "x"; side = Lo; from = Begin (codes "a"); to = Begin (codes "c"); weight = pos 0 }

a_cycle : IsCycleOf three backwards (negsuc 4) (x_lo ∷ e_lo ∷ d_lo ∷ [])
a_cycle = record {
  first = x_lo;
  own = (0, omega arith, refl);
  cycle = record { rest = e_lo ∷ d_lo ∷ []; are = refl; back = down; sums = refl };
  tightest = by_table (λ far. after (pos 0) (far (Begin (codes "c")) (Begin (codes "a")))) three;
  negative = omega (arith, ints);
}

-- dist d a a 1 2 is a cycle by itself
loop : IsCycleOf (Point (codes "a") ∷ []) (Dist (codes "d") (Begin (codes "a")) (Begin (codes "a")) (Finite (pos 1)) (Finite (pos 2))) (negsuc 0)
    (record { premise = codes "d"; side = Lo; from = Begin (codes "a"); to = Begin (codes "a"); weight = negsuc 0 } ∷ [])
unfolding IsDistinct
loop = record {
  first = record { premise = codes "d"; side = Lo; from = Begin (codes "a"); to = Begin (codes "a"); weight = negsuc 0 };
  own = (1, omega arith, refl);
  cycle = record { rest = []; are = refl; back = record { own = All-from_contains (Contains (steps_in (Point (codes "a") ∷ []))) [] (λ x at. absurd (In-from_Contains [] x at)); leads = refl; distinct = (tt, tt) }; sums = refl };
  tightest = by_table (λ far. after (negsuc 0) (far (Begin (codes "a")) (Begin (codes "a")))) (Point (codes "a") ∷ []);
  negative = omega (arith, ints);
}

-- dist f a b 2 5 beside dist d a b 3 7
abbrev narrower : List Premise
narrower = three ++ Dist (codes "f") (Begin (codes "a")) (Begin (codes "b")) (Finite (pos 2)) (Finite (pos 5)) ∷ []

narrowed : (far_in narrower (Begin (codes "a")) (Begin (codes "b")) ≡ Finite (pos 5)) × (far_in narrower (Begin (codes "b")) (Begin (codes "a")) ≡ Finite (negsuc 2))
narrowed = (by_table (λ far. far (Begin (codes "a")) (Begin (codes "b"))) narrower, by_table (λ far. far (Begin (codes "b")) (Begin (codes "a"))) narrower)
