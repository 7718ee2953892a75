-- Delays along rules: what they sum up to, and dates that take the least on one way and the most
-- beside it.
use Rattle.std.proofs.Common.{◌≡◌, ◌∙◌, ℕ, Bool, true, false, List, [], ◌∷◌, ◌++◌, refl, sym, ap, subst, arith}
use Rattle.std.proofs.lemmas.Int.{ints}
use Rattle.std.specs.Prelude.{ℤ, pos, ◌+ℤ◌, ◌-ℤ◌, ◌≤ℤ◌}
use Rattle.std.specs.Cmp.Lexicographic.{bytes_decides, nat_list_eq_equiv}
use Rattle.tmm_model.specs.declared.bound.Bound.{Bound}
use Rattle.tmm_model.specs.declared.bound.Bound.TheVariants.{Finite, Free}
use Rattle.tmm_model.specs.declared.point.PointName.{PointName}
use Rattle.tmm_model.specs.Bounds.{IfFinite, bound_plus, bound_less}
use Rattle.tmm_model.specs.Types.{IsTighter}
use Rattle.tmm_model.specs.Moments.{Moment, At, After, RuleText, base, rules, along, rule_of, low, high, apart}
use Rattle.tmm_model.specs.Points.{same_name, same_point}
use Rattle.tmm_model.specs.Standing.{Standing}
use Rattle.tmm_laws.specs.TimingLaw.{IsDelay, AreDelays}
use Rattle.belief_theory.proofs.Moments.{along-push}

-- ---- the moment that rules lead to

pub along-rules : (x : Moment) → along (At (base x)) (rules x) ≡ x
along-rules (At p) = refl
along-rules (After t r) = along-push (At (base t)) (rules t) r ∙ ap (λ m. After m r) (along-rules t)

-- ---- what delays sum up to

high_sum : (t a z : ℤ) (x y : Bound) → IfFinite x (λ hi. (a -ℤ t) ≤ℤ hi) → IfFinite y (λ hi. (z -ℤ a) ≤ℤ hi) → IfFinite (bound_plus x y) (λ hi. (z -ℤ t) ≤ℤ hi)
high_sum t a z (Finite x) (Finite y) h k = omega (arith, ints)
high_sum t a z (Finite x) Free h k = tt
high_sum t a z Free y h k = tt

low_sum : (lo rest t a z : ℤ) → lo ≤ℤ (a -ℤ t) → rest ≤ℤ (z -ℤ a) → (lo +ℤ rest) ≤ℤ (z -ℤ t)
low_sum lo rest t a z h k = omega (arith, ints)

least_first : (l t x y : ℤ) (most : Bound) → l ≤ℤ (x -ℤ t) → IfFinite most (λ hi. (y -ℤ t) ≤ℤ hi) → IfFinite (bound_less most l) (λ d. (y -ℤ x) ≤ℤ d)
least_first l t x y (Finite h) le k = omega (arith, ints)
least_first l t x y Free le k = tt

module _ (s : Standing) (time : Moment → ℤ) where
  -- delays to where rules lead are delays to where they begin
  from_along : (t : Moment) (u : List (List ℕ)) → AreDelays s time (along t u) → AreDelays s time t
  from_along t [] h = h
  from_along t (r ∷ u) h = (from_along (After t r) u h).0

  pub low_kept : (t : Moment) (u : List (List ℕ)) → AreDelays s time (along t u) → low s u ≤ℤ (time (along t u) -ℤ time t)
  low_kept t [] h = omega (arith, ints)
  low_kept t (r ∷ u) h = low_sum (rule_of s r).lo (low s u) (time t) (time (After t r)) (time (along (After t r) u)) (from_along (After t r) u h).1.0 (low_kept (After t r) u h)

  pub high_kept : (t : Moment) (u : List (List ℕ)) → AreDelays s time (along t u) → IfFinite (high s u) (λ hi. (time (along t u) -ℤ time t) ≤ℤ hi)
  high_kept t [] h = omega (arith, ints)
  high_kept t (r ∷ u) h = high_sum (time t) (time (After t r)) (time (along (After t r) u)) (rule_of s r).hi (high s u) (from_along (After t r) u h).1.1 (high_kept (After t r) u h)

  -- no delays lead further apart, where the ways have nothing in common
  parted_kept : (t : Moment) (u v : List (List ℕ)) → AreDelays s time (along t u) → AreDelays s time (along t v) → IfFinite (bound_less (high s v) (low s u)) (λ d. (time (along t v) -ℤ time (along t u)) ≤ℤ d)
  parted_kept t u v h k = least_first (low s u) (time t) (time (along t u)) (time (along t v)) (high s v) (low_kept t u h) (high_kept t v k)

  -- **No delays lead further apart than `apart` says.**
  pub apart_kept : (t : Moment) (u v : List (List ℕ)) → AreDelays s time (along t u) → AreDelays s time (along t v) → IfFinite (apart s u v) (λ d. (time (along t v) -ℤ time (along t u)) ≤ℤ d)
  apart_kept t [] v h k = parted_kept t [] v h k
  apart_kept t (r ∷ u) [] h k = parted_kept t (r ∷ u) [] h k
  apart_kept t (r ∷ u) (q ∷ v) h k = by (same_name r q) refl (λ g. apart_kept (After t r) u v h g)
    where
      by : (b : Bool) → same_name r q ≡ b → (AreDelays s time (along (After t r) v) → IfFinite (apart s u v) (λ d. (time (along (After t r) v) -ℤ time (along (After t r) u)) ≤ℤ d))
          → IfFinite (elim b [ true ↦ apart s u v | false ↦ bound_less (high s (q ∷ v)) (low s (r ∷ u)) ]) (λ d. (time (along t (q ∷ v)) -ℤ time (along t (r ∷ u))) ≤ℤ d)
      by true e again =
          let same : r ≡ q = (bytes_decides r q).0 e in
          subst (λ w. IfFinite (apart s u v) (λ d. (time (along (After t w) v) -ℤ time (along (After t r) u)) ≤ℤ d)) same
          (again (subst (λ w. AreDelays s time (along (After t w) v)) (sym same) k))
      by false e again = parted_kept t (r ∷ u) (q ∷ v) h k

turned : (m : ℤ) → (m +ℤ pos 0) ≡ (pos 0 +ℤ m)
turned m = omega (arith, ints)

shifted : (a b c : ℤ) → (b -ℤ c) ≡ ((a +ℤ b) -ℤ (a +ℤ c))
shifted a b c = omega (arith, ints)

pub low-append : (s : Standing) (u : List (List ℕ)) (r : List ℕ) → low s (u ++ r ∷ []) ≡ (low s u +ℤ (rule_of s r).lo)
low-append s [] r = turned (rule_of s r).lo
low-append s (q ∷ u) r = by (rule_of s q).lo (low s u) (rule_of s r).lo (low s (u ++ r ∷ [])) (low-append s u r)
  where
    by : (a b c d : ℤ) → d ≡ (b +ℤ c) → (a +ℤ d) ≡ ((a +ℤ b) +ℤ c)
    by a b c d e = omega (arith, ints)

-- ---- dates by chosen delays

-- the most that a rule takes, and n above its least where it has no most
abbrev pub most_of : ℤ → RuleText → ℤ
most_of n rule = elim rule.hi [ Finite hi ↦ hi | Free ↦ rule.lo +ℤ n ]

module _ (s : Standing) (n : ℤ) where
  -- the most that rules take
  abbrev pub longest : List (List ℕ) → ℤ
  longest [] = pos 0
  longest (r ∷ v) = most_of n (rule_of s r) +ℤ longest v

  -- what the rules v take: the least where they go as u goes, and from there on the most
  abbrev pub spent : List (List ℕ) → List (List ℕ) → ℤ
  spent [] v = longest v
  spent (r ∷ u) [] = pos 0
  spent (r ∷ u) (q ∷ v) = elim (same_name r q) [ true ↦ (rule_of s q).lo +ℤ spent u v | false ↦ longest (q ∷ v) ]

  -- dates d of points, with the least delays on the way by the rules u from the point p, and beside
  -- it the most
  abbrev pub timed : (PointName → ℤ) → PointName → List (List ℕ) → Moment → ℤ
  timed d p u x = d (base x) +ℤ spent (elim (same_point p (base x)) [ true ↦ u | false ↦ [] ]) (rules x)

is_most : (n : ℤ) → pos 0 ≤ℤ n → (lo : ℤ) (hi : Bound) → IsTighter (Finite lo) hi → (lo ≤ℤ elim hi [ Finite hi ↦ hi | Free ↦ lo +ℤ n ]) × IfFinite hi (λ h. elim hi as (λ _. ℤ) [ Finite hi ↦ hi | Free ↦ lo +ℤ n ] ≤ℤ h)
is_most n le lo (Finite h) sound = (sound, omega (arith, ints))
is_most n le lo Free sound = (omega (arith, ints), tt)

pub is_least : (lo : ℤ) (hi : Bound) → IsTighter (Finite lo) hi → IfFinite hi (λ h. lo ≤ℤ h)
is_least lo (Finite h) sound = sound
is_least lo Free sound = tt

one_more : (a m b : ℤ) → b ≡ (a +ℤ m) → m ≡ (b -ℤ a)
one_more a m b e = omega (arith, ints)

module _ (s : Standing) (n : ℤ) (le : pos 0 ≤ℤ n) (sound : (r : List ℕ) → IsTighter (Finite (rule_of s r).lo) (rule_of s r).hi) where
  longest-append : (v : List (List ℕ)) (r : List ℕ) → longest s n (v ++ r ∷ []) ≡ (longest s n v +ℤ most_of n (rule_of s r))
  longest-append [] r = turned (most_of n (rule_of s r))
  longest-append (q ∷ v) r = by (most_of n (rule_of s q)) (longest s n v) (most_of n (rule_of s r)) (longest s n (v ++ r ∷ [])) (longest-append v r)
    where
      by : (a b c d : ℤ) → d ≡ (b +ℤ c) → (a +ℤ d) ≡ ((a +ℤ b) +ℤ c)
      by a b c d e = omega (arith, ints)

  pub spent-nil : (u : List (List ℕ)) → spent s n u [] ≡ pos 0
  spent-nil [] = refl
  spent-nil (r ∷ u) = refl

  pub spent-own : (u : List (List ℕ)) → spent s n u u ≡ low s u
  spent-own [] = refl
  spent-own (r ∷ u) =
      let e : same_name r r ≡ true = nat_list_eq_equiv.refl r in
      subst (λ b. (elim b [ true ↦ (rule_of s r).lo +ℤ spent s n u u | false ↦ longest s n (r ∷ u) ]) ≡ ((rule_of s r).lo +ℤ low s u)) (sym e) (ap (λ z. (rule_of s r).lo +ℤ z) (spent-own u))

  most_delay : (r : List ℕ) → IsDelay (rule_of s r) (most_of n (rule_of s r))
  most_delay r = is_most n le (rule_of s r).lo (rule_of s r).hi (sound r)

  least_delay : (r : List ℕ) → IsDelay (rule_of s r) (rule_of s r).lo
  least_delay r = ((omega (arith, ints)), is_least (rule_of s r).lo (rule_of s r).hi (sound r))

  longest_delay : (v : List (List ℕ)) (r : List ℕ) → IsDelay (rule_of s r) (longest s n (v ++ r ∷ []) -ℤ longest s n v)
  longest_delay v r = subst (IsDelay (rule_of s r)) (one_more (longest s n v) (most_of n (rule_of s r)) (longest s n (v ++ r ∷ [])) (longest-append v r)) (most_delay r)

  -- one more rule takes one of its delays
  spent_delay : (u v : List (List ℕ)) (r : List ℕ) → IsDelay (rule_of s r) (spent s n u (v ++ r ∷ []) -ℤ spent s n u v)
  spent_delay [] v r = longest_delay v r
  spent_delay (w ∷ u) [] r = by (same_name w r)
    where
      own : (a b : ℤ) → b ≡ pos 0 → a ≡ ((a +ℤ b) -ℤ pos 0)
      own a b e = omega (arith, ints)

      by : (b : Bool) → IsDelay (rule_of s r) (elim b [ true ↦ (rule_of s r).lo +ℤ spent s n u [] | false ↦ longest s n (r ∷ []) ] -ℤ pos 0)
      by true = subst (IsDelay (rule_of s r)) (own (rule_of s r).lo (spent s n u []) (spent-nil u)) (least_delay r)
      by false = longest_delay [] r
  spent_delay (w ∷ u) (q ∷ v) r = by (same_name w q) (spent_delay u v r)
    where
      by : (b : Bool) → IsDelay (rule_of s r) (spent s n u (v ++ r ∷ []) -ℤ spent s n u v)
          → IsDelay (rule_of s r) (elim b [ true ↦ (rule_of s q).lo +ℤ spent s n u (v ++ r ∷ []) | false ↦ longest s n (q ∷ v ++ r ∷ []) ] -ℤ elim b [ true ↦ (rule_of s q).lo +ℤ spent s n u v | false ↦ longest s n (q ∷ v) ])
      by true again = subst (IsDelay (rule_of s r)) (shifted (rule_of s q).lo (spent s n u (v ++ r ∷ [])) (spent s n u v)) again
      by false again = longest_delay (q ∷ v) r

  -- so do all rules on the way to any moment
  pub timed_delays : (d : PointName → ℤ) (p : PointName) (u : List (List ℕ)) (x : Moment) → AreDelays s (timed s n d p u) x
  timed_delays d p u (At q) = tt
  timed_delays d p u (After t r) =
      let w : List (List ℕ) = elim (same_point p (base t)) [ true ↦ u | false ↦ [] ] in (
        timed_delays d p u t,
        subst (IsDelay (rule_of s r)) (shifted (d (base t)) (spent s n w (rules t ++ r ∷ [])) (spent s n w (rules t))) (spent_delay w (rules t) r),
      )

  -- ---- how far apart the chosen delays lead

  high_sum_is : (m l : ℤ) (x y : Bound) → IfFinite x (λ hi. m ≡ hi) → IfFinite y (λ hi. l ≡ hi) → IfFinite (bound_plus x y) (λ hi. (m +ℤ l) ≡ hi)
  high_sum_is m l (Finite x) (Finite y) h k = λ i. h i +ℤ k i
  high_sum_is m l (Finite x) Free h k = tt
  high_sum_is m l Free y h k = tt

  most_is : (lo : ℤ) (hi : Bound) → IfFinite hi (λ h. elim hi as (λ _. ℤ) [ Finite hi ↦ hi | Free ↦ lo +ℤ n ] ≡ h)
  most_is lo (Finite h) = refl
  most_is lo Free = tt

  pub longest_high : (v : List (List ℕ)) → IfFinite (high s v) (λ hi. longest s n v ≡ hi)
  longest_high [] = refl
  longest_high (r ∷ v) = high_sum_is (most_of n (rule_of s r)) (longest s n v) (rule_of s r).hi (high s v) (most_is (rule_of s r).lo (rule_of s r).hi) (longest_high v)

  pub longest_low : (v : List (List ℕ)) → low s v ≤ℤ longest s n v
  longest_low [] = omega (arith, ints)
  longest_low (r ∷ v) = both (rule_of s r).lo (most_of n (rule_of s r)) (low s v) (longest s n v) (most_delay r).0 (longest_low v)
    where
      both : (a b c d : ℤ) → a ≤ℤ b → c ≤ℤ d → (a +ℤ c) ≤ℤ (b +ℤ d)
      both a b c d h k = omega (arith, ints)

  -- where rules have no most together, these take n above their least
  pub longest_free : (v : List (List ℕ)) → high s v ≡ Free → (n +ℤ low s v) ≤ℤ longest s n v
  longest_free [] e = cc
  longest_free (r ∷ v) e = by (rule_of s r).lo (rule_of s r).hi (high s v) (low s v) (longest s n v) (longest_low v) (sound r) (longest_free v) e
    where
      by : (lo : ℤ) (x y : Bound) (l m : ℤ) → l ≤ℤ m → IsTighter (Finite lo) x → (y ≡ Free → (n +ℤ l) ≤ℤ m) → bound_plus x y ≡ Free → (n +ℤ (lo +ℤ l)) ≤ℤ (elim x as (λ _. ℤ) [ Finite hi ↦ hi | Free ↦ lo +ℤ n ] +ℤ m)
      by lo (Finite x) (Finite y) l m h k again e = cc
      by lo (Finite x) Free l m h k again e = omega (arith, ints, again refl)
      by lo Free y l m h k again e = omega (arith, ints)

  parted : (u v : List (List ℕ)) (m : ℤ) → IfFinite (high s v) (λ hi. m ≡ hi) → IfFinite (bound_less (high s v) (low s u)) (λ d. (m -ℤ low s u) ≡ d)
  parted u v m h = by (high s v) h
    where
      by : (x : Bound) → IfFinite x (λ hi. m ≡ hi) → IfFinite (bound_less x (low s u)) (λ d. (m -ℤ low s u) ≡ d)
      by (Finite x) e = ap (λ z. z -ℤ low s u) e
      by Free e = tt

  -- **These delays lead as far apart as `apart` says.**
  pub spent_apart : (u v : List (List ℕ)) → IfFinite (apart s u v) (λ d. (spent s n u v -ℤ low s u) ≡ d)
  spent_apart [] v = parted [] v (longest s n v) (longest_high v)
  spent_apart (r ∷ u) [] = parted (r ∷ u) [] (pos 0) refl
  spent_apart (r ∷ u) (q ∷ v) = by (same_name r q) refl (spent_apart u v)
    where
      same : (a b c : ℤ) (x : Bound) → IfFinite x (λ d. (b -ℤ c) ≡ d) → IfFinite x (λ d. ((a +ℤ b) -ℤ (a +ℤ c)) ≡ d)
      same a b c (Finite x) e = omega (arith, ints)
      same a b c Free e = tt

      by : (b : Bool) → same_name r q ≡ b → IfFinite (apart s u v) (λ d. (spent s n u v -ℤ low s u) ≡ d)
          → IfFinite (elim b [ true ↦ apart s u v | false ↦ bound_less (high s (q ∷ v)) (low s (r ∷ u)) ])
          (λ d. (elim b as (λ _. ℤ) [ true ↦ (rule_of s q).lo +ℤ spent s n u v | false ↦ longest s n (q ∷ v) ] -ℤ low s (r ∷ u)) ≡ d)
      by true e again =
          subst (λ w. IfFinite (apart s u v) (λ d. (((rule_of s w).lo +ℤ spent s n u v) -ℤ low s (r ∷ u)) ≡ d)) ((bytes_decides r q).0 e)
          (same (rule_of s r).lo (spent s n u v) (low s u) (apart s u v) again)
      by false e again = parted (r ∷ u) (q ∷ v) (longest s n (q ∷ v)) (longest_high (q ∷ v))

  less_free : (x : Bound) (w : ℤ) → bound_less x w ≡ Free → x ≡ Free
  less_free (Finite x) w e = cc
  less_free Free w e = refl

  -- and n above the least where there is no bound
  pub spent_free : (u v : List (List ℕ)) → apart s u v ≡ Free → (n +ℤ low s v) ≤ℤ spent s n u v
  spent_free [] v e = longest_free v (less_free (high s v) (pos 0) e)
  spent_free (r ∷ u) [] e = cc
  spent_free (r ∷ u) (q ∷ v) e = by (same_name r q) refl (spent_free u v) e
    where
      by : (b : Bool) → same_name r q ≡ b → (apart s u v ≡ Free → (n +ℤ low s v) ≤ℤ spent s n u v)
          → elim b [ true ↦ apart s u v | false ↦ bound_less (high s (q ∷ v)) (low s (r ∷ u)) ] ≡ Free
          → (n +ℤ low s (q ∷ v)) ≤ℤ elim b as (λ _. ℤ) [ true ↦ (rule_of s q).lo +ℤ spent s n u v | false ↦ longest s n (q ∷ v) ]
      by true is again e = more (rule_of s q).lo (low s v) (spent s n u v) (again e)
        where
          more : (a b c : ℤ) → (n +ℤ b) ≤ℤ c → (n +ℤ (a +ℤ b)) ≤ℤ (a +ℤ c)
          more a b c h = omega (arith, ints)
      by false is again e = longest_free (q ∷ v) (less_free (high s (q ∷ v)) (low s (r ∷ u)) e)
