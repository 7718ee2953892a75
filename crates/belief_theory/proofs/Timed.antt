-- Distances of moments: the triangle law, and the dates of occurrences.
use Rattle.std.proofs.Common.{◌≡◌, ℕ, Bool, true, false, List, [], ◌∷◌, ◌++◌, refl, sym, ◌∙◌, ap, subst, arith}
use Rattle.std.proofs.lemmas.Int.{ints}
use Rattle.std.specs.Prelude.{Some, ℤ, pos, neg_ℤ, ◌+ℤ◌, ◌-ℤ◌, ◌≤ℤ◌, int_le, IsTrue}
use Rattle.std.specs.List.{Contains}
use Rattle.tmm_model.specs.declared.point.PointName.{PointName}
use Rattle.tmm_model.specs.declared.point.PointName.TheVariants.{Start, Begin}
use Rattle.tmm_model.specs.declared.premise.Premise.{Premise}
use Rattle.tmm_model.specs.declared.premise.Premise.TheVariants.{Class, Kind, Point, Event, Token, Span, Dist, Rule, Protect, Against}
use Rattle.tmm_model.specs.declared.bound.Bound.{Bound}
use Rattle.tmm_model.specs.declared.bound.Bound.TheVariants.{Finite, Free}
use Rattle.tmm_model.specs.Bounds.{bound_plus, bound_less, bound_at_most}
use Rattle.tmm_model.specs.Types.{IsTighter}
use Rattle.tmm_model.specs.Moments.{Moment, At, After, Distances, distance, early, negated, rule_of, low, high, apart, base, rules}
use Rattle.tmm_model.specs.Points.{same_point}
use Rattle.tmm_model.specs.Standing.{Standing}
use Rattle.tmm_model.specs.Tokens.{is_by}
use Rattle.tmm_model.specs.Beliefs.{root_of, roots, rules_at, due}
use Rattle.belief_theory.specs.Right.{Occurs, IsTimed, IsQuasiMetric, HasSoundRules}
use Rattle.list_theory.proofs.Elements.{In-from_Contains, In-filter_map}
use Rattle.walk_theory.proofs.Points.{same_point-is, same_point-self}
use Rattle.belief_theory.proofs.Triangle.{T_left, T_right, B_same, low_high, low_apart, high_apart, apart_most, apart_triangle, same_path}

T_far : (lu lv : ℤ) (x f13 f12 f23 hv hw : Bound) → IsTighter x (bound_less (bound_plus f13 hw) lu) → IsTighter f13 (bound_plus f12 f23) → IsTighter (Finite lv) hv → IsTighter x (bound_plus (bound_less (bound_plus f12 hv) lu) (bound_less (bound_plus f23 hw) lv))
T_far lu lv x f13 Free f23 hv hw p q r = tt
T_far lu lv x f13 (Finite a) f23 Free hw p q r = tt
T_far lu lv x f13 (Finite a) Free (Finite v) hw p q r = tt
T_far lu lv x f13 (Finite a) (Finite b) (Finite v) Free p q r = tt
T_far lu lv x Free (Finite a) (Finite b) (Finite v) (Finite w) p q r = absurd q
T_far lu lv Free (Finite c) (Finite a) (Finite b) (Finite v) (Finite w) p q r = absurd p
T_far lu lv (Finite x) (Finite c) (Finite a) (Finite b) (Finite v) (Finite w) p q r = omega (arith, ints)

own_zero : (lu : ℤ) (x f h : Bound) → f ≡ Finite (pos 0) → IsTighter x (bound_less h lu) → IsTighter x (bound_less (bound_plus f h) lu)
own_zero lu x Free h e p = cc
own_zero lu x (Finite z) Free e p = tt
own_zero lu Free (Finite z) (Finite h) e p = absurd p
own_zero lu (Finite x) (Finite z) (Finite h) e p = let q : z ≡ pos 0 = cc in omega (arith, ints)

module _ (s : Standing) (far : Distances) (short : IsQuasiMetric s far) (rule_laws : HasSoundRules s) where
  -- the walk by way of the bases is no shorter
  distance_most : (x y : Moment) → IsTighter (distance s far x y) (bound_less (bound_plus (far (base x) (base y)) (high s (rules y))) (low s (rules x)))
  distance_most x y = by (same_point (base x) (base y)) refl
    where
      most : Bound
      most = bound_less (bound_plus (far (base x) (base y)) (high s (rules y))) (low s (rules x))

      by : (b : Bool) → same_point (base x) (base y) ≡ b → IsTighter (elim b [ true ↦ apart s (rules x) (rules y) | false ↦ bound_less (bound_plus (far (base x) (base y)) (high s (rules y))) (low s (rules x)) ]) (bound_less (bound_plus (far (base x) (base y)) (high s (rules y))) (low s (rules x)))
      by true e =
          own_zero (low s (rules x)) (apart s (rules x) (rules y)) (far (base x) (base y)) (high s (rules y))
          (subst (λ p. far (base x) p ≡ Finite (pos 0)) (same_point-is (base x) (base y) e) (short.itself (base x)))
          (apart_most s rule_laws.sound (rules x) (rules y))
      by false e = itself_most (bound_less (bound_plus (far (base x) (base y)) (high s (rules y))) (low s (rules x)))
        where
          itself_most : (a : Bound) → IsTighter a a
          itself_most Free = tt
          itself_most (Finite a) = omega (arith, ints)

  pub distance_itself : (x : Moment) → distance s far x x ≡ Finite (pos 0)
  distance_itself x = subst (λ b. (elim b [ true ↦ apart s (rules x) (rules x) | false ↦ bound_less (bound_plus (far (base x) (base x)) (high s (rules x))) (low s (rules x)) ]) ≡ Finite (pos 0)) (sym (same_point-self (base x))) (same_path s rule_laws.sound (rules x))

  pub distance_triangle : (x y z : Moment) → IsTighter (distance s far x z) (bound_plus (distance s far x y) (distance s far y z))
  distance_triangle x y z = by (same_point (base x) (base y)) refl (same_point (base y) (base z)) refl (distance_most x z)
    where
      by : (b : Bool) → same_point (base x) (base y) ≡ b → (c : Bool) → same_point (base y) (base z) ≡ c
          → IsTighter (distance s far x z) (bound_less (bound_plus (far (base x) (base z)) (high s (rules z))) (low s (rules x)))
          → IsTighter (distance s far x z)
          (bound_plus (elim b [ true ↦ apart s (rules x) (rules y) | false ↦ bound_less (bound_plus (far (base x) (base y)) (high s (rules y))) (low s (rules x)) ])
          (elim c [ true ↦ apart s (rules y) (rules z) | false ↦ bound_less (bound_plus (far (base y) (base z)) (high s (rules z))) (low s (rules y)) ]))
      by true e true f most =
          let g : same_point (base x) (base z) ≡ true = subst (λ p. same_point p (base z) ≡ true) (sym (same_point-is (base x) (base y) e)) f in
          subst (λ b. IsTighter (elim b [ true ↦ apart s (rules x) (rules z) | false ↦ bound_less (bound_plus (far (base x) (base z)) (high s (rules z))) (low s (rules x)) ]) (bound_plus (apart s (rules x) (rules y)) (apart s (rules y) (rules z)))) (sym g)
          (apart_triangle s rule_laws.sound (rules x) (rules y) (rules z))
      by true e false f most =
          let g : same_point (base x) (base z) ≡ false = subst (λ p. same_point p (base z) ≡ false) (sym (same_point-is (base x) (base y) e)) f in
          subst (λ b. IsTighter (elim b [ true ↦ apart s (rules x) (rules z) | false ↦ bound_less (bound_plus (far (base x) (base z)) (high s (rules z))) (low s (rules x)) ]) (bound_plus (apart s (rules x) (rules y)) (bound_less (bound_plus (far (base y) (base z)) (high s (rules z))) (low s (rules y))))) (sym g)
          (subst (λ p. IsTighter (bound_less (bound_plus (far (base x) (base z)) (high s (rules z))) (low s (rules x))) (bound_plus (apart s (rules x) (rules y)) (bound_less (bound_plus (far p (base z)) (high s (rules z))) (low s (rules y))))) (same_point-is (base x) (base y) e)
          (T_right (low s (rules x)) (low s (rules y)) (apart s (rules x) (rules y)) (bound_plus (far (base x) (base z)) (high s (rules z))) (low_apart s rule_laws.sound (rules x) (rules y))))
      by false e true f most =
          let g : same_point (base x) (base z) ≡ false = subst (λ p. same_point (base x) p ≡ false) (same_point-is (base y) (base z) f) e in
          subst (λ b. IsTighter (elim b [ true ↦ apart s (rules x) (rules z) | false ↦ bound_less (bound_plus (far (base x) (base z)) (high s (rules z))) (low s (rules x)) ]) (bound_plus (bound_less (bound_plus (far (base x) (base y)) (high s (rules y))) (low s (rules x))) (apart s (rules y) (rules z)))) (sym g)
          (subst (λ p. IsTighter (bound_less (bound_plus (far (base x) p) (high s (rules z))) (low s (rules x))) (bound_plus (bound_less (bound_plus (far (base x) (base y)) (high s (rules y))) (low s (rules x))) (apart s (rules y) (rules z)))) (same_point-is (base y) (base z) f)
          (T_left (low s (rules x)) (bound_plus (far (base x) (base y)) (high s (rules y))) (bound_plus (far (base x) (base y)) (high s (rules z))) (apart s (rules y) (rules z))
          (B_same (far (base x) (base y)) (high s (rules y)) (high s (rules z)) (apart s (rules y) (rules z)) (high_apart s rule_laws.sound (rules y) (rules z)))))
      by false e false f most =
          T_far (low s (rules x)) (low s (rules y)) (distance s far x z) (far (base x) (base z)) (far (base x) (base y)) (far (base y) (base z)) (high s (rules y)) (high s (rules z))
          most (short.triangle (base x) (base y) (base z)) (low_high s rule_laws.sound (rules y))

  root_begin : (p : PointName) → Contains (roots s) (At p) → (k : List ℕ) × (p ≡ Begin k)
  root_begin p at = let (q, there, e) = In-filter_map root_of s.premises (At p) (In-from_Contains (roots s) (At p) at) in by q e
    where
      by : (q : Premise) → root_of q ≡ Some (At p) → (k : List ℕ) × (p ≡ Begin k)
      by (Event name kind) e = (name, cc)
      by (Token name fact) e = (name, cc)
      by (Span name fact) e = (name, cc)
      by (Class name facts) e = cc
      by (Kind name) e = cc
      by (Point name) e = cc
      by (Dist name from to lo hi) e = cc
      by (Rule name trigger lo hi effect given unless_facts) e = cc
      by (Protect name fact from to) e = cc
      by (Against name one other) e = cc

  base_occurs : (x : Moment) → Occurs s x → Contains (roots s) (At (base x))
  base_occurs (At p) h = h
  base_occurs (After t r) h = base_occurs t (h.0)

  low-append : (u : List (List ℕ)) (r : List ℕ) → low s (u ++ (r ∷ [])) ≡ (low s u +ℤ (rule_of s r).lo)
  low-append [] r = let z : ((rule_of s r).lo +ℤ pos 0) ≡ (pos 0 +ℤ (rule_of s r).lo) = omega (arith, ints) in z
  low-append (q ∷ u) r = let h = low-append u r in by (rule_of s q).lo (low s u) (rule_of s r).lo (low s (u ++ (r ∷ []))) h
    where
      by : (a b c d : ℤ) → d ≡ (b +ℤ c) → (a +ℤ d) ≡ ((a +ℤ b) +ℤ c)
      by a b c d e = omega (arith, ints)

  low_rules : (x : Moment) → Occurs s x → pos 0 ≤ℤ low s (rules x)
  low_rules (At p) h = omega (arith, ints)
  low_rules (After t r) h = subst (λ z. pos 0 ≤ℤ z) (sym (low-append (rules t) r)) (by (low s (rules t)) (rule_of s r).lo (low_rules t (h.0)) (rule_laws.delayed t r (h.1)))
    where
      by : (a b : ℤ) → pos 0 ≤ℤ a → pos 1 ≤ℤ b → pos 0 ≤ℤ (a +ℤ b)
      by a b p q = omega (arith, ints)

  -- the distance of an occurrence to the start, and its earliest date
  to_start : (x : Moment) → Occurs s x → (d : ℤ) × (far (base x) Start ≡ Finite d) × (d ≤ℤ pos 0) × (distance s far x (At Start) ≡ Finite (d -ℤ low s (rules x)))
  to_start x h =
      let at = base_occurs x h in
      let (k, begins) = root_begin (base x) at in
      let (d, is, not_after) = short.from_root (base x) at in
      let apart_base : same_point (base x) Start ≡ false = ap (λ p. same_point p Start) begins in (
        d,
        is,
        not_after,
        ap (λ b. elim b [ true ↦ apart s (rules x) [] | false ↦ bound_less (bound_plus (far (base x) Start) (Finite (pos 0))) (low s (rules x)) ]) apart_base
            ∙ ap (λ f. bound_less (bound_plus f (Finite (pos 0))) (low s (rules x))) is
            ∙ ap Finite (plain d (low s (rules x))),
      )
    where
      plain : (d l : ℤ) → ((d +ℤ pos 0) -ℤ l) ≡ (d -ℤ l)
      plain d l = omega (arith, ints)

  early_is : (x : Moment) → Occurs s x → (d : ℤ) × (far (base x) Start ≡ Finite d) × (d ≤ℤ pos 0) × (early s far x ≡ (low s (rules x) -ℤ d))
  early_is x h = let (d, is, not_after, e) = to_start x h in (d, is, not_after, ap negated e ∙ turned_round d (low s (rules x)))
    where
      turned_round : (d l : ℤ) → neg_ℤ (d -ℤ l) ≡ (l -ℤ d)
      turned_round d l = omega (arith, ints)

  not_before_start : (x : Moment) → Occurs s x → pos 0 ≤ℤ early s far x
  not_before_start x h = let (d, is, not_after, e) = early_is x h in subst (λ z. pos 0 ≤ℤ z) (sym e) (by d (low s (rules x)) not_after (low_rules x h))
    where
      by : (d l : ℤ) → d ≤ℤ pos 0 → pos 0 ≤ℤ l → pos 0 ≤ℤ (l -ℤ d)
      by d l p q = omega (arith, ints)

  due_is : (t : Moment) (r : List ℕ) → Occurs s t → Contains (rules_at s t) r → early s far (After t r) ≡ due s far t r
  due_is t r h stands =
      let (d, is, _, e) = early_is t h in
      let (d2, is2, _, e2) = early_is (After t r) (h, stands) in
      let same : d2 ≡ d = cc in
      by (early s far (After t r)) (early s far t) d d2 (low s (rules t)) (rule_of s r).lo (low s (rules t ++ (r ∷ []))) e e2 (low-append (rules t) r) same
    where
      by : (x y d d2 l lo m : ℤ) → y ≡ (l -ℤ d) → x ≡ (m -ℤ d2) → m ≡ (l +ℤ lo) → d2 ≡ d → x ≡ (y +ℤ lo)
      by x y d d2 l lo m e f g h = omega (arith, ints)

  in_order : (x y : Moment) → Occurs s x → Occurs s y → IsTrue (is_by (distance s far) x y) → early s far x ≤ℤ early s far y
  in_order x y hx hy near =
      let (d, _, _, ex) = to_start x hx in
      let (e, _, _, ey) = to_start y hy in
      by (distance s far y x) (distance s far x (At Start)) (distance s far y (At Start)) (d -ℤ low s (rules x)) (e -ℤ low s (rules y)) ex ey near (distance_triangle y x (At Start))
    where
      by : (yx xs ys : Bound) (a b : ℤ) → xs ≡ Finite a → ys ≡ Finite b → bound_at_most yx (pos 0) ≡ true → IsTighter ys (bound_plus yx xs) → negated xs ≤ℤ negated ys
      by Free xs ys a b p q n t = cc
      by (Finite c) Free ys a b p q n t = cc
      by (Finite c) (Finite x) Free a b p q n t = absurd t
      by (Finite c) (Finite x) (Finite y) a b p q n t = low_enough c x y n t
        where
          low_enough : (c x y : ℤ) → int_le c (pos 0) ≡ true → y ≤ℤ (c +ℤ x) → neg_ℤ x ≤ℤ neg_ℤ y
          low_enough c x y n t = grind (arith, ints)

  -- dates of occurrences, where those of points are right
  pub timed : IsTimed s far
  timed = record { not_before_start = not_before_start; due_is = due_is; delayed = rule_laws.delayed; in_order = in_order }
