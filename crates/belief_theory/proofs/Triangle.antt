-- Distances of moments meet the triangle law where those of points do.
use Rattle.std.proofs.Common.{◌≡◌, ℕ, Bool, true, false, List, [], ◌∷◌, refl, sym, subst, arith}
use Rattle.std.proofs.lemmas.Int.{ints}
use Rattle.std.specs.Prelude.{ℤ, pos, ◌+ℤ◌}
use Rattle.std.specs.Cmp.Lexicographic.{nat_list_eq_equiv}
use Rattle.tmm_model.specs.declared.bound.Bound.{Bound}
use Rattle.tmm_model.specs.declared.bound.Bound.TheVariants.{Finite, Free}
use Rattle.tmm_model.specs.Bounds.{bound_plus, bound_less}
use Rattle.tmm_model.specs.Types.{IsTighter}
use Rattle.tmm_model.specs.Moments.{rule_of, low, high, apart}
use Rattle.tmm_model.specs.Points.{same_name}
use Rattle.tmm_model.specs.Standing.{Standing}
use Rattle.walk_theory.proofs.Points.{same_name-is}

-- ---- bounds

sum_both : (l h : ℤ) (a b : Bound) → IsTighter (Finite l) a → IsTighter (Finite h) b → IsTighter (Finite (l +ℤ h)) (bound_plus a b)
sum_both l h (Finite a) (Finite b) p q = omega (arith, ints)
sum_both l h (Finite a) Free p q = tt
sum_both l h Free b p q = tt

A_same : (l lu lv : ℤ) (d : Bound) → IsTighter (Finite lv) (bound_plus (Finite lu) d) → IsTighter (Finite (l +ℤ lv)) (bound_plus (Finite (l +ℤ lu)) d)
A_same l lu lv (Finite d) p = omega (arith, ints)
A_same l lu lv Free p = tt

A_other : (lu lv : ℤ) (hv : Bound) → IsTighter (Finite lv) hv → IsTighter (Finite lv) (bound_plus (Finite lu) (bound_less hv lu))
A_other lu lv (Finite h) p = omega (arith, ints)
A_other lu lv Free p = tt

pub B_same : (h hv hw d : Bound) → IsTighter hw (bound_plus hv d) → IsTighter (bound_plus h hw) (bound_plus (bound_plus h hv) d)
B_same Free hv hw d p = tt
B_same (Finite h) Free hw d p = tt
B_same (Finite h) (Finite v) hw Free p = tt
B_same (Finite h) (Finite v) Free (Finite d) p = absurd p
B_same (Finite h) (Finite v) (Finite w) (Finite d) p = omega (arith, ints)

B_other : (lv : ℤ) (hv hw : Bound) → IsTighter (Finite lv) hv → IsTighter hw (bound_plus hv (bound_less hw lv))
B_other lv Free hw p = tt
B_other lv (Finite h) Free p = tt
B_other lv (Finite h) (Finite w) p = omega (arith, ints)

K_same : (l lu : ℤ) (h hv d : Bound) → IsTighter (Finite l) h → IsTighter d (bound_less hv lu) → IsTighter d (bound_less (bound_plus h hv) (l +ℤ lu))
K_same l lu Free hv d p q = tt
K_same l lu (Finite h) Free d p q = tt
K_same l lu (Finite h) (Finite v) Free p q = absurd q
K_same l lu (Finite h) (Finite v) (Finite d) p q = omega (arith, ints)

K_other : (lu : ℤ) (hv : Bound) → IsTighter (bound_less hv lu) (bound_less hv lu)
K_other lu Free = tt
K_other lu (Finite h) = omega (arith, ints)

pub T_left : (lu : ℤ) (hv hw d : Bound) → IsTighter hw (bound_plus hv d) → IsTighter (bound_less hw lu) (bound_plus (bound_less hv lu) d)
T_left lu Free hw d p = tt
T_left lu (Finite v) hw Free p = tt
T_left lu (Finite v) Free (Finite d) p = absurd p
T_left lu (Finite v) (Finite w) (Finite d) p = omega (arith, ints)

T_mid : (lu lv : ℤ) (x hv hw : Bound) → IsTighter x (bound_less hw lu) → IsTighter (Finite lv) hv → IsTighter x (bound_plus (bound_less hv lu) (bound_less hw lv))
T_mid lu lv x Free hw p q = tt
T_mid lu lv x (Finite v) Free p q = tt
T_mid lu lv Free (Finite v) (Finite w) p q = absurd p
T_mid lu lv (Finite x) (Finite v) (Finite w) p q = omega (arith, ints)

pub T_right : (lu lv : ℤ) (d hw : Bound) → IsTighter (Finite lv) (bound_plus (Finite lu) d) → IsTighter (bound_less hw lu) (bound_plus d (bound_less hw lv))
T_right lu lv Free hw p = tt
T_right lu lv (Finite d) Free p = tt
T_right lu lv (Finite d) (Finite w) p = omega (arith, ints)

self : (a : Bound) → IsTighter a a
self Free = tt
self (Finite a) = omega (arith, ints)

-- ---- paths of rules

module _ (s : Standing) (sound : (r : List ℕ) → IsTighter (Finite (rule_of s r).lo) (rule_of s r).hi) where
  pub low_high : (u : List (List ℕ)) → IsTighter (Finite (low s u)) (high s u)
  low_high [] = omega (arith, ints)
  low_high (r ∷ u) = sum_both _ _ _ _ (sound r) (low_high u)

  -- v begins low v or more after the base
  pub low_apart : (u v : List (List ℕ)) → IsTighter (Finite (low s v)) (bound_plus (Finite (low s u)) (apart s u v))
  low_apart (r ∷ u) (q ∷ v) = by (low_apart u v) (same_name r q) refl
    where
      by : IsTighter (Finite (low s v)) (bound_plus (Finite (low s u)) (apart s u v)) → (b : Bool) → same_name r q ≡ b → IsTighter (Finite (low s (q ∷ v))) (bound_plus (Finite (low s (r ∷ u))) (elim b [ true ↦ apart s u v | false ↦ bound_less (high s (q ∷ v)) (low s (r ∷ u)) ]))
      by again true e = subst (λ w. IsTighter (Finite (low s (w ∷ v))) (bound_plus (Finite (low s (r ∷ u))) (apart s u v))) (same_name-is r q e) (A_same (rule_of s r).lo (low s u) (low s v) (apart s u v) again)
      by again false e = A_other (low s (r ∷ u)) (low s (q ∷ v)) (high s (q ∷ v)) (low_high (q ∷ v))
  low_apart (r ∷ u) [] = A_other (low s (r ∷ u)) (low s []) (high s []) (low_high [])
  low_apart [] v = A_other (low s []) (low s v) (high s v) (low_high v)

  pub high_apart : (v w : List (List ℕ)) → IsTighter (high s w) (bound_plus (high s v) (apart s v w))
  high_apart (r ∷ u) (q ∷ v) = by (high_apart u v) (same_name r q) refl
    where
      by : IsTighter (high s v) (bound_plus (high s u) (apart s u v)) → (b : Bool) → same_name r q ≡ b → IsTighter (high s (q ∷ v)) (bound_plus (high s (r ∷ u)) (elim b [ true ↦ apart s u v | false ↦ bound_less (high s (q ∷ v)) (low s (r ∷ u)) ]))
      by again true e = subst (λ w. IsTighter (high s (w ∷ v)) (bound_plus (high s (r ∷ u)) (apart s u v))) (same_name-is r q e) (B_same (rule_of s r).hi (high s u) (high s v) (apart s u v) again)
      by again false e = B_other (low s (r ∷ u)) (high s (r ∷ u)) (high s (q ∷ v)) (low_high (r ∷ u))
  high_apart (r ∷ u) [] = B_other (low s (r ∷ u)) (high s (r ∷ u)) (high s []) (low_high (r ∷ u))
  high_apart [] v = B_other (low s []) (high s []) (high s v) (low_high [])

  pub apart_most : (u v : List (List ℕ)) → IsTighter (apart s u v) (bound_less (high s v) (low s u))
  apart_most (r ∷ u) (q ∷ v) = by (apart_most u v) (same_name r q) refl
    where
      by : IsTighter (apart s u v) (bound_less (high s v) (low s u)) → (b : Bool) → same_name r q ≡ b → IsTighter (elim b [ true ↦ apart s u v | false ↦ bound_less (high s (q ∷ v)) (low s (r ∷ u)) ]) (bound_less (high s (q ∷ v)) (low s (r ∷ u)))
      by again true e = subst (λ w. IsTighter (apart s u v) (bound_less (high s (w ∷ v)) (low s (r ∷ u)))) (same_name-is r q e) (K_same (rule_of s r).lo (low s u) (rule_of s r).hi (high s v) (apart s u v) (sound r) again)
      by again false e = K_other (low s (r ∷ u)) (high s (q ∷ v))
  apart_most (r ∷ u) [] = K_other (low s (r ∷ u)) (high s [])
  apart_most [] v = K_other (low s []) (high s v)

  pub same_path : (u : List (List ℕ)) → apart s u u ≡ Finite (pos 0)
  same_path [] = refl
  same_path (r ∷ u) = let e : same_name r r ≡ true = nat_list_eq_equiv.refl r in subst (λ b. (elim b [ true ↦ apart s u u | false ↦ bound_less (high s (r ∷ u)) (low s (r ∷ u)) ]) ≡ Finite (pos 0)) (sym e) (same_path u)

  pub apart_triangle : (u v w : List (List ℕ)) → IsTighter (apart s u w) (bound_plus (apart s u v) (apart s v w))
  apart_triangle [] v w = T_left (low s []) (high s v) (high s w) (apart s v w) (high_apart v w)
  apart_triangle (r ∷ u) [] w = T_mid (low s (r ∷ u)) (low s []) (apart s (r ∷ u) w) (high s []) (high s w) (apart_most (r ∷ u) w) (low_high [])
  apart_triangle (r ∷ u) (q ∷ v) [] = T_right (low s (r ∷ u)) (low s (q ∷ v)) (apart s (r ∷ u) (q ∷ v)) (high s []) (low_apart (r ∷ u) (q ∷ v))
  apart_triangle (r ∷ u) (q ∷ v) (p ∷ w) = by (apart_triangle u v w) (same_name r q) refl (same_name q p) refl (same_name r p) refl
    where
      by : IsTighter (apart s u w) (bound_plus (apart s u v) (apart s v w))
          → (b : Bool) → same_name r q ≡ b → (c : Bool) → same_name q p ≡ c → (d : Bool) → same_name r p ≡ d
          → IsTighter (elim d [ true ↦ apart s u w | false ↦ bound_less (high s (p ∷ w)) (low s (r ∷ u)) ])
          (bound_plus (elim b [ true ↦ apart s u v | false ↦ bound_less (high s (q ∷ v)) (low s (r ∷ u)) ])
          (elim c [ true ↦ apart s v w | false ↦ bound_less (high s (p ∷ w)) (low s (q ∷ v)) ]))
      by again true e true f true g = again
      by again true e true f false g = let h : same_name r p ≡ true = subst (λ z. same_name z p ≡ true) (sym (same_name-is r q e)) f in cc
      by again true e false f true g = let h : same_name q p ≡ true = subst (λ z. same_name z p ≡ true) (same_name-is r q e) g in cc
      by again true e false f false g =
          T_right (low s (r ∷ u)) (low s (q ∷ v)) (apart s u v) (high s (p ∷ w))
          (subst (λ z. IsTighter (Finite (low s (z ∷ v))) (bound_plus (Finite (low s (r ∷ u))) (apart s u v))) (same_name-is r q e) (A_same (rule_of s r).lo (low s u) (low s v) (apart s u v) (low_apart u v)))
      by again false e true f true g = let h : same_name r q ≡ true = subst (λ z. same_name r z ≡ true) (sym (same_name-is q p f)) g in cc
      by again false e true f false g =
          T_left (low s (r ∷ u)) (high s (q ∷ v)) (high s (p ∷ w)) (apart s v w)
          (subst (λ z. IsTighter (high s (z ∷ w)) (bound_plus (high s (q ∷ v)) (apart s v w))) (same_name-is q p f) (B_same (rule_of s q).hi (high s v) (high s w) (apart s v w) (high_apart v w)))
      by again false e false f true g =
          T_mid (low s (r ∷ u)) (low s (q ∷ v)) (apart s u w) (high s (q ∷ v)) (high s (p ∷ w))
          (subst (λ z. IsTighter (apart s u w) (bound_less (high s (z ∷ w)) (low s (r ∷ u)))) (same_name-is r p g) (K_same (rule_of s r).lo (low s u) (rule_of s r).hi (high s w) (apart s u w) (sound r) (apart_most u w)))
          (low_high (q ∷ v))
      by again false e false f false g =
          T_mid (low s (r ∷ u)) (low s (q ∷ v)) (bound_less (high s (p ∷ w)) (low s (r ∷ u))) (high s (q ∷ v)) (high s (p ∷ w)) (K_other (low s (r ∷ u)) (high s (p ∷ w))) (low_high (q ∷ v))
