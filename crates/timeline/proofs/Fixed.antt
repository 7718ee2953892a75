-- Where nothing is left open, moments are surely in the order of their dates.
use Rattle.std.proofs.Common.{◌≡◌, ◌∙◌, ℕ, Bool, true, false, List, [], ◌∷◌, refl, sym, ap, subst, inl, arith}
use Rattle.std.proofs.lemmas.Int.{ints}
use Rattle.std.specs.Prelude.{◌↔◌, ℤ, pos, negsuc, neg_ℤ, ◌-ℤ◌, ◌+ℤ◌, ◌≤ℤ◌, ◌<ℤ◌, int_le}
use Rattle.std.specs.List.{Contains}
use Rattle.std.specs.Cmp.Lexicographic.{bytes_decides}
use Rattle.tmm_model.specs.declared.bound.Bound.{Bound}
use Rattle.tmm_model.specs.declared.bound.Bound.TheVariants.{Finite, Free}
use Rattle.tmm_model.specs.declared.point.PointName.{PointName}
use Rattle.tmm_model.specs.declared.point.PointName.TheVariants.{Start}
use Rattle.tmm_model.specs.Bounds.{bound_plus, bound_less, bound_negated, bound_at_most}
use Rattle.tmm_model.specs.Maps.{built}
use Rattle.tmm_model.specs.Moments.{Moment, base, rules, rule_of, low, high, apart, distance}
use Rattle.tmm_model.specs.Points.{same_name, same_point}
use Rattle.tmm_model.specs.Standing.{Standing, points_in, far_in}
use Rattle.tmm_model.specs.Tokens.{is_by, is_before}
use Rattle.tmm_model.specs.Types.{IsTighter}
use Rattle.walk_theory.proofs.Points.{Decides-same_point}
use Rattle.list_theory.specs.WellNamed.{IsSound}
use Rattle.list_theory.proofs.Elements.{Contains-from_In}
use Rattle.belief_theory.proofs.Sound.{shortest}
use Rattle.timeline.specs.Days.{date}
use Rattle.timeline.specs.Laws.{LeavesNothingOpen}
use Rattle.timeline.proofs.EarlyDates.{to_start, date_is}

module _ (s : Standing) (sound : IsSound s) (fixed : LeavesNothingOpen s) where
  abbrev pub IsDeclared : Moment → Type 0
  IsDeclared x = Contains (points_in s.premises) (base x)

  -- ---- what rules take

  high_is : (u : List (List ℕ)) → high s u ≡ Finite (low s u)
  high_is [] = refl
  high_is (r ∷ u) = ap (λ h. bound_plus h (high s u)) (fixed.rules r) ∙ ap (λ h. bound_plus (Finite (rule_of s r).lo) h) (high_is u)

  less_is : (u v : List (List ℕ)) → bound_less (high s v) (low s u) ≡ Finite (low s v -ℤ low s u)
  less_is u v = ap (λ h. bound_less h (low s u)) (high_is v)

  apart_is : (u v : List (List ℕ)) → apart s u v ≡ Finite (low s v -ℤ low s u)
  apart_is [] v = less_is [] v
  apart_is (r ∷ u) [] = less_is (r ∷ u) []
  apart_is (r ∷ u) (q ∷ v) = by (same_name r q) refl (apart_is u v)
    where
      shifted : (a b c : ℤ) → (b -ℤ c) ≡ ((a +ℤ b) -ℤ (a +ℤ c))
      shifted a b c = omega (arith, ints)

      by : (t : Bool) → same_name r q ≡ t → apart s u v ≡ Finite (low s v -ℤ low s u)
          → elim t [ true ↦ apart s u v | false ↦ bound_less (high s (q ∷ v)) (low s (r ∷ u)) ] ≡ Finite (low s (q ∷ v) -ℤ low s (r ∷ u))
      by true e again =
          subst (λ w. apart s u v ≡ Finite (((rule_of s w).lo +ℤ low s v) -ℤ low s (r ∷ u))) ((bytes_decides r q).0 e)
          (again ∙ ap Finite (shifted (rule_of s r).lo (low s v) (low s u)))
      by false e again = less_is (r ∷ u) (q ∷ v)

  -- ---- the distance of declared points

  start_declared : Contains (points_in s.premises) Start
  start_declared = Contains-from_In (points_in s.premises) Start (inl refl)

  number : (x y z : Bound) (a b : ℤ) → y ≡ Finite a → z ≡ Finite (neg_ℤ b) → IsTighter x (bound_plus y z) → IsTighter y (bound_plus x (Finite b)) → x ≡ Finite (a -ℤ b)
  number (Finite c) (Finite y) (Finite z) a b is_y is_z h g = ap Finite (by c y z a b (one is_y) (one is_z) h g)
    where
      one : {m n : ℤ} → Finite m ≡ Finite n → m ≡ n
      one e = cc

      by : (c y z a b : ℤ) → y ≡ a → z ≡ neg_ℤ b → c ≤ℤ (y +ℤ z) → y ≤ℤ (c +ℤ b) → c ≡ (a -ℤ b)
      by c y z a b e f h g = omega (arith, ints)
  number Free (Finite y) (Finite z) a b is_y is_z h g = absurd h
  number x Free z a b is_y is_z h g = cc
  number x (Finite y) Free a b is_y is_z h g = cc

  -- from p to q it is as their distances to the start say
  far_is : (p q : PointName) (a b : ℤ) → Contains (points_in s.premises) q → far_in s.premises p Start ≡ Finite a → far_in s.premises q Start ≡ Finite b → far_in s.premises p q ≡ Finite (a -ℤ b)
  far_is p q a b at_q is_a is_b =
      number (far_in s.premises p q) (far_in s.premises p Start) (far_in s.premises Start q) a b is_a
      (fixed.points Start q start_declared at_q ∙ ap bound_negated is_b)
      ((shortest s sound).triangle p Start q)
      (subst (λ z. IsTighter (far_in s.premises p Start) (bound_plus (far_in s.premises p q) z)) is_b ((shortest s sound).triangle p q Start))

  -- ---- the distance of moments

  -- **It is the difference of their dates.**
  distance_is : (x y : Moment) → IsDeclared x → IsDeclared y → distance s (far_in s.premises) x y ≡ Finite (date (built s) y -ℤ date (built s) x)
  distance_is x y at_x at_y =
      let (a, is_a) = to_start s sound (base x) at_x in
      let (b, is_b) = to_start s sound (base y) at_y in
      by a b is_a is_b (date_is s sound x a is_a) (date_is s sound y b is_b) (same_point (base x) (base y)) refl
    where
      one : {m n : ℤ} → Finite m ≡ Finite n → m ≡ n
      one e = cc

      same_base : (lx ly dx dy a b : ℤ) → dx ≡ (lx -ℤ a) → dy ≡ (ly -ℤ b) → a ≡ b → (ly -ℤ lx) ≡ (dy -ℤ dx)
      same_base lx ly dx dy a b e f g = omega (arith, ints)

      other_base : (lx ly dx dy a b : ℤ) → dx ≡ (lx -ℤ a) → dy ≡ (ly -ℤ b) → (((a -ℤ b) +ℤ ly) -ℤ lx) ≡ (dy -ℤ dx)
      other_base lx ly dx dy a b e f = omega (arith, ints)

      by : (a b : ℤ) → far_in s.premises (base x) Start ≡ Finite a → far_in s.premises (base y) Start ≡ Finite b
          → date (built s) x ≡ (low s (rules x) -ℤ a) → date (built s) y ≡ (low s (rules y) -ℤ b)
          → (t : Bool) → same_point (base x) (base y) ≡ t
          → elim t [ true ↦ apart s (rules x) (rules y) | false ↦ bound_less (bound_plus (far_in s.premises (base x) (base y)) (high s (rules y))) (low s (rules x)) ] ≡ Finite (date (built s) y -ℤ date (built s) x)
      by a b is_a is_b on_x on_y true e =
          let same : base x ≡ base y = (Decides-same_point (base x) (base y)).0 e in
          let one_far : a ≡ b = one (sym is_a ∙ ap (λ p. far_in s.premises p Start) same ∙ is_b) in
          apart_is (rules x) (rules y) ∙ ap Finite (same_base (low s (rules x)) (low s (rules y)) (date (built s) x) (date (built s) y) a b on_x on_y one_far)
      by a b is_a is_b on_x on_y false e =
          ap (λ f. bound_less (bound_plus f (high s (rules y))) (low s (rules x))) (far_is (base x) (base y) a b at_y is_a is_b)
          ∙ ap (λ h. bound_less (bound_plus (Finite (a -ℤ b)) h) (low s (rules x))) (high_is (rules y))
          ∙ ap Finite (other_base (low s (rules x)) (low s (rules y)) (date (built s) x) (date (built s) y) a b on_x on_y)

  -- **So what is surely at or before, or before, another is so by its date.**
  pub by_date : (x y : Moment) → IsDeclared x → IsDeclared y → (is_by (distance s (far_in s.premises)) x y ≡ true) ↔ (date (built s) x ≤ℤ date (built s) y)
  by_date x y at_x at_y = told (distance s (far_in s.premises) y x) (date (built s) x) (date (built s) y) (distance_is y x at_y at_x)
    where
      into : (a b : ℤ) → int_le (a -ℤ b) (pos 0) ≡ true → a ≤ℤ b
      into a b h = grind (arith, ints)

      back : (a b : ℤ) → a ≤ℤ b → int_le (a -ℤ b) (pos 0) ≡ true
      back a b h = grind (arith, ints)

      told : (f : Bound) (a b : ℤ) → f ≡ Finite (a -ℤ b) → (bound_at_most f (pos 0) ≡ true) ↔ (a ≤ℤ b)
      told f a b e = subst (λ g. (bound_at_most g (pos 0) ≡ true) ↔ (a ≤ℤ b)) (sym e) (into a b, back a b)

  pub before_date : (x y : Moment) → IsDeclared x → IsDeclared y → (is_before (distance s (far_in s.premises)) x y ≡ true) ↔ (date (built s) x <ℤ date (built s) y)
  before_date x y at_x at_y = told (distance s (far_in s.premises) y x) (date (built s) x) (date (built s) y) (distance_is y x at_y at_x)
    where
      into : (a b : ℤ) → int_le (a -ℤ b) (negsuc 0) ≡ true → a <ℤ b
      into a b h = grind (arith, ints)

      back : (a b : ℤ) → a <ℤ b → int_le (a -ℤ b) (negsuc 0) ≡ true
      back a b h = grind (arith, ints)

      told : (f : Bound) (a b : ℤ) → f ≡ Finite (a -ℤ b) → (bound_at_most f (negsuc 0) ≡ true) ↔ (a <ℤ b)
      told f a b e = subst (λ g. (bound_at_most g (negsuc 0) ≡ true) ↔ (a <ℤ b)) (sym e) (into a b, back a b)
