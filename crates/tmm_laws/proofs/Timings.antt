-- The laws of timings.
use Rattle.std.proofs.Common.{◌≡◌, ◌∙◌, ◌↔◌, ℕ, Bool, true, false, List, [], refl, sym, ap, subst, arith, IsTrue}
use Rattle.std.proofs.lemmas.Int.{ints, clamps}
use Rattle.std.proofs.lemmas.List.Elements.{All-contains}
use Rattle.std.specs.Prelude.{ℤ, pos, negsuc, ◌+ℤ◌, ◌-ℤ◌, ◌≤ℤ◌, ◌<ℤ◌, int_le}
use Rattle.std.specs.Int.{int_max}
use Rattle.std.specs.List.{Contains}
use Rattle.tmm_model.specs.declared.bound.Bound.{Bound}
use Rattle.tmm_model.specs.declared.bound.Bound.TheVariants.{Finite, Free}
use Rattle.tmm_model.specs.declared.point.PointName.{PointName}
use Rattle.tmm_model.specs.declared.point.PointName.TheVariants.{Start}
use Rattle.tmm_model.specs.Bounds.{IfFinite, bound_plus, bound_less, bound_at_most}
use Rattle.tmm_model.specs.Types.{IsTighter}
use Rattle.tmm_model.specs.Moments.{Moment, At, base, rules, along, rule_of, low, high, apart, distance}
use Rattle.tmm_model.specs.Points.{same_point}
use Rattle.list_theory.specs.WellNamed.{IsSound}
use Rattle.tmm_model.specs.Standing.{Standing, arcs_in, far_in}
use Rattle.tmm_model.specs.Walks.{IsDates}
use Rattle.walk_theory.specs.LeastWalks.{IsFar}
use Rattle.walk_theory.proofs.Members.{All-from_contains}
use Rattle.walk_theory.proofs.Points.{Decides-same_point}
use Rattle.walk_theory.proofs.Reach.{difference-le_far, dates_reach, dates_pass}
use Rattle.belief_theory.proofs.Sound.{far_in-IsFar, sound_rules}
use Rattle.tmm_laws.specs.TimingLaw.{AreDelays, IsTiming, IsTightestOf, IsSureOf}
use Rattle.tmm_laws.proofs.Delays.{along-rules, low_kept, high_kept, apart_kept, longest, spent, timed, timed_delays, longest_high, longest_free, longest_low, spent-nil, spent-own, spent_apart, spent_free}

IfFinite-map : {P Q : ℤ → Type 0} (x : Bound) → ((n : ℤ) → P n → Q n) → IfFinite x P → IfFinite x Q
IfFinite-map (Finite x) f h = f x h
IfFinite-map Free f h = tt

is_zero : (a b : ℤ) → b ≡ pos 0 → (a +ℤ b) ≡ a
is_zero a b e = omega (arith, ints)

-- a number that is not negative and is above another
above : (m : ℤ) → (n : ℤ) × (pos 0 ≤ℤ n) × (m <ℤ n)
above m = (int_max (pos 0) (m +ℤ pos 1), omega (arith, ints, clamps), omega (arith, ints, clamps))

module _ (s : Standing) (sound : IsSound s) (b : List Moment) where
  leaves : (r : List ℕ) → IsTighter (Finite (rule_of s r).lo) (rule_of s r).hi
  leaves = (sound_rules s sound).sound

  -- dates of points and chosen delays are a timing
  timed_is : (n : ℤ) → pos 0 ≤ℤ n → (d : PointName → ℤ) → IsDates Start (arcs_in s.premises) d → (p : PointName) (u : List (List ℕ)) → IsTiming s b (timed s n d p u)
  timed_is n le d dates p u = record {
    dates = subst (IsDates Start (arcs_in s.premises)) (sym own) dates;
    delays = All-from_contains (AreDelays s (timed s n d p u)) b (λ x _. timed_delays s n le leaves d p u x);
  }
    where
      own : (λ (q : PointName). timed s n d p u (At q)) ≡ d
      own i q = is_zero (d q) (spent s n (elim (same_point p q) [ true ↦ u | false ↦ [] ]) []) (spent-nil s n le leaves (elim (same_point p q) [ true ↦ u | false ↦ [] ])) i

  module _ (x y : Moment) where
    -- some timing has y at m after x
    abbrev Reaches : ℤ → Type 0
    Reaches m = (time : Moment → ℤ) × IsTiming s b time × ((time y -ℤ time x) ≡ m)

    abbrev Exceeds : ℤ → Type 0
    Exceeds m = (time : Moment → ℤ) × IsTiming s b time × (m <ℤ (time y -ℤ time x))

    abbrev Keeps : ℤ → Type 0
    Keeps m = (time : Moment → ℤ) → IsTiming s b time → (time y -ℤ time x) ≤ℤ m

    from_parts : (f : Bound) → IfFinite f Keeps → IfFinite f Reaches → (f ≡ Free → (m : ℤ) → Exceeds m) → IsTightestOf s b x y f
    from_parts (Finite d) keeps reaches exceeds = (keeps, reaches)
    from_parts Free keeps reaches exceeds = exceeds refl

    -- ---- no timing exceeds the distance

    module _ (in_x : Contains b x) (in_y : Contains b y) (time : Moment → ℤ) (is : IsTiming s b time) where
      to_x : AreDelays s time (along (At (base x)) (rules x))
      to_x = subst (AreDelays s time) (sym (along-rules x)) (All-contains (AreDelays s time) b x is.delays in_x)

      to_y : AreDelays s time (along (At (base y)) (rules y))
      to_y = subst (AreDelays s time) (sym (along-rules y)) (All-contains (AreDelays s time) b y is.delays in_y)

      x_after : low s (rules x) ≤ℤ (time x -ℤ time (At (base x)))
      x_after = subst (λ z. low s (rules x) ≤ℤ (time z -ℤ time (At (base x)))) (along-rules x) (low_kept s time (At (base x)) (rules x) to_x)

      y_by : IfFinite (high s (rules y)) (λ hi. (time y -ℤ time (At (base y))) ≤ℤ hi)
      y_by = subst (λ z. IfFinite (high s (rules y)) (λ hi. (time z -ℤ time (At (base y))) ≤ℤ hi)) (along-rules y) (high_kept s time (At (base y)) (rules y) to_y)

      kept_same : base x ≡ base y → IfFinite (apart s (rules x) (rules y)) (λ d. (time y -ℤ time x) ≤ℤ d)
      kept_same e =
          subst (λ z. IfFinite (apart s (rules x) (rules y)) (λ d. (time z -ℤ time x) ≤ℤ d)) (along-rules y)
          (subst (λ z. IfFinite (apart s (rules x) (rules y)) (λ d. (time (along (At (base y)) (rules y)) -ℤ time z) ≤ℤ d)) (along-rules x)
          (subst (λ p. IfFinite (apart s (rules x) (rules y)) (λ d. (time (along (At p) (rules y)) -ℤ time (along (At (base x)) (rules x))) ≤ℤ d)) e
          (apart_kept s time (At (base x)) (rules x) (rules y) to_x (subst (λ p. AreDelays s time (along (At p) (rules y))) (sym e) to_y))))

      kept_other : IfFinite (bound_less (bound_plus (far_in s.premises (base x) (base y)) (high s (rules y))) (low s (rules x))) (λ d. (time y -ℤ time x) ≤ℤ d)
      kept_other =
          by (far_in s.premises (base x) (base y)) (high s (rules y)) (low s (rules x)) (time x) (time y) (time (At (base x))) (time (At (base y))) x_after y_by
          (λ d far. difference-le_far Start (arcs_in s.premises) (base x) (base y) d far (λ p. time (At p)) is.dates)
          (far_in-IsFar s sound (base x) (base y))
        where
          by : (f h : Bound) (l x_at y_at a c : ℤ) → l ≤ℤ (x_at -ℤ a) → IfFinite h (λ hi. (y_at -ℤ c) ≤ℤ hi)
              → ((d : ℤ) → IsFar (arcs_in s.premises) (base x) (base y) (Finite d) → (c -ℤ a) ≤ℤ d) → IsFar (arcs_in s.premises) (base x) (base y) f
              → IfFinite (bound_less (bound_plus f h) l) (λ d. (y_at -ℤ x_at) ≤ℤ d)
          by (Finite f) (Finite h) l x_at y_at a c low_x high_y keeps far = omega (arith, ints, keeps f far)
          by (Finite f) Free l x_at y_at a c low_x high_y keeps far = tt
          by Free h l x_at y_at a c low_x high_y keeps far = tt

    -- ---- a timing that reaches it

    module _ (n : ℤ) (le : pos 0 ≤ℤ n) (d : PointName → ℤ) (dates : IsDates Start (arcs_in s.premises) d) where
      abbrev chosen : Moment → ℤ
      chosen = timed s n d (base x) (rules x)

      chosen_x : chosen x ≡ (d (base x) +ℤ low s (rules x))
      chosen_x =
          ap (λ t. d (base x) +ℤ spent s n (elim t [ true ↦ rules x | false ↦ [] ]) (rules x)) ((Decides-same_point (base x) (base x)).1 refl)
          ∙ ap (λ z. d (base x) +ℤ z) (spent-own s n le leaves (rules x))

      chosen_y : (t : Bool) → same_point (base x) (base y) ≡ t → chosen y ≡ (d (base y) +ℤ spent s n (elim t [ true ↦ rules x | false ↦ [] ]) (rules y))
      chosen_y t e = ap (λ t. d (base y) +ℤ spent s n (elim t [ true ↦ rules x | false ↦ [] ]) (rules y)) e

      apart_by : (y_at x_at a c l m : ℤ) → y_at ≡ (c +ℤ m) → x_at ≡ (a +ℤ l) → (y_at -ℤ x_at) ≡ ((c -ℤ a) +ℤ (m -ℤ l))
      apart_by y_at x_at a c l m e f = omega (arith, ints)

      chosen_apart : (t : Bool) → same_point (base x) (base y) ≡ t → (chosen y -ℤ chosen x) ≡ ((d (base y) -ℤ d (base x)) +ℤ (spent s n (elim t [ true ↦ rules x | false ↦ [] ]) (rules y) -ℤ low s (rules x)))
      chosen_apart t e = apart_by (chosen y) (chosen x) (d (base x)) (d (base y)) (low s (rules x)) (spent s n (elim t [ true ↦ rules x | false ↦ [] ]) (rules y)) (chosen_y t e) chosen_x

    zero_le : pos 0 ≤ℤ pos 0
    zero_le = omega (arith, ints)

    reached_same : same_point (base x) (base y) ≡ true → IfFinite (apart s (rules x) (rules y)) Reaches
    reached_same e =
        let (d, dates) = sound.dates in
        let same : base x ≡ base y = (Decides-same_point (base x) (base y)).0 e in
        IfFinite-map (apart s (rules x) (rules y))
        (λ m is. (
          chosen (pos 0) zero_le d dates,
          timed_is (pos 0) zero_le d dates (base x) (rules x),
          chosen_apart (pos 0) zero_le d dates true e ∙ by (d (base x)) (d (base y)) (spent s (pos 0) (rules x) (rules y) -ℤ low s (rules x)) m (ap d same) is,
        ))
        (spent_apart s (pos 0) zero_le leaves (rules x) (rules y))
      where
        by : (a c n m : ℤ) → a ≡ c → n ≡ m → ((c -ℤ a) +ℤ n) ≡ m
        by a c n m e f = omega (arith, ints)

    reached_other : same_point (base x) (base y) ≡ false → IfFinite (bound_less (bound_plus (far_in s.premises (base x) (base y)) (high s (rules y))) (low s (rules x))) Reaches
    reached_other e =
        by (far_in s.premises (base x) (base y)) (high s (rules y)) (far_in-IsFar s sound (base x) (base y)) (longest_high s (pos 0) zero_le leaves (rules y))
      where
        sums : (a c f h l m : ℤ) → (c -ℤ a) ≡ f → m ≡ h → ((c -ℤ a) +ℤ (m -ℤ l)) ≡ ((f +ℤ h) -ℤ l)
        sums a c f h l m e g = omega (arith, ints)

        by : (f h : Bound) → IsFar (arcs_in s.premises) (base x) (base y) f → IfFinite h (λ hi. longest s (pos 0) (rules y) ≡ hi) → IfFinite (bound_less (bound_plus f h) (low s (rules x))) Reaches
        by (Finite f) (Finite h) far is =
            let (d, dates, reaches) = dates_reach same_point Decides-same_point Start (arcs_in s.premises) sound.dates (base x) (base y) f far in (
              chosen (pos 0) zero_le d dates,
              timed_is (pos 0) zero_le d dates (base x) (rules x),
              chosen_apart (pos 0) zero_le d dates false e ∙ sums (d (base x)) (d (base y)) f h (low s (rules x)) (longest s (pos 0) (rules y)) reaches is,
            )
        by (Finite f) Free far is = tt
        by Free h far is = tt

    -- ---- timings that exceed any number, where there is no bound

    passing : (a c l k m v : ℤ) → v ≡ ((c -ℤ a) +ℤ (k -ℤ l)) → ((m +ℤ l) -ℤ (c -ℤ a)) <ℤ k → m <ℤ v
    passing a c l k m v e h = omega (arith, ints)

    -- where the rules to y can take any time beside those to x
    passed_long : (t : Bool) → same_point (base x) (base y) ≡ t → ((n : ℤ) → pos 0 ≤ℤ n → (n +ℤ low s (rules y)) ≤ℤ spent s n (elim t [ true ↦ rules x | false ↦ [] ]) (rules y)) → (m : ℤ) → Exceeds m
    passed_long t e long m =
        let (d, dates) = sound.dates in
        let (n, le, is_above) = above (((m +ℤ low s (rules x)) -ℤ (d (base y) -ℤ d (base x))) -ℤ low s (rules y)) in (
          chosen n le d dates,
          timed_is n le d dates (base x) (rules x),
          passing (d (base x)) (d (base y)) (low s (rules x)) (spent s n (elim t [ true ↦ rules x | false ↦ [] ]) (rules y)) m (chosen n le d dates y -ℤ chosen n le d dates x) (chosen_apart n le d dates t e)
              (enough ((m +ℤ low s (rules x)) -ℤ (d (base y) -ℤ d (base x))) n (low s (rules y)) (spent s n (elim t [ true ↦ rules x | false ↦ [] ]) (rules y)) is_above (long n le)),
        )
      where
        enough : (a n l k : ℤ) → (a -ℤ l) <ℤ n → (n +ℤ l) ≤ℤ k → a <ℤ k
        enough a n l k h g = omega (arith, ints)

    passed_same : same_point (base x) (base y) ≡ true → apart s (rules x) (rules y) ≡ Free → (m : ℤ) → Exceeds m
    passed_same e free = passed_long true e (λ n le. spent_free s n le leaves (rules x) (rules y) free)

    passed_other : same_point (base x) (base y) ≡ false → bound_less (bound_plus (far_in s.premises (base x) (base y)) (high s (rules y))) (low s (rules x)) ≡ Free → (m : ℤ) → Exceeds m
    passed_other e free m =
        by (far_in s.premises (base x) (base y)) (high s (rules y)) (far_in-IsFar s sound (base x) (base y)) (λ is. passed_long false e (λ n le. longest_free s n le leaves (rules y) is) m) free
      where
        far_enough : (a c l k v m : ℤ) → ((m +ℤ l) -ℤ v) <ℤ (c -ℤ a) → v ≤ℤ k → ((m +ℤ l) -ℤ (c -ℤ a)) <ℤ k
        far_enough a c l k v m h g = omega (arith, ints)

        by : (f h : Bound) → IsFar (arcs_in s.premises) (base x) (base y) f → (h ≡ Free → Exceeds m) → bound_less (bound_plus f h) (low s (rules x)) ≡ Free → Exceeds m
        by (Finite f) (Finite h) far long free = cc
        by (Finite f) Free far long free = long refl
        by Free h far long free =
            let (d, dates, pass) = dates_pass same_point Decides-same_point Start (arcs_in s.premises) sound.dates (base x) (base y) far ((m +ℤ low s (rules x)) -ℤ low s (rules y)) in (
              chosen (pos 0) zero_le d dates,
              timed_is (pos 0) zero_le d dates (base x) (rules x),
              passing (d (base x)) (d (base y)) (low s (rules x)) (longest s (pos 0) (rules y)) m (chosen (pos 0) zero_le d dates y -ℤ chosen (pos 0) zero_le d dates x) (chosen_apart (pos 0) zero_le d dates false e)
                  (far_enough (d (base x)) (d (base y)) (low s (rules x)) (longest s (pos 0) (rules y)) (low s (rules y)) m pass (longest_low s (pos 0) zero_le leaves (rules y))),
            )

    -- **The distance is the tightest bound over all timings.**
    pub tightest : Contains b x → Contains b y → IsTightestOf s b x y (distance s (far_in s.premises) x y)
    tightest in_x in_y = by (same_point (base x) (base y)) refl
      where
        keeps : (f : Bound) → ((time : Moment → ℤ) → IsTiming s b time → IfFinite f (λ d. (time y -ℤ time x) ≤ℤ d)) → IfFinite f Keeps
        keeps (Finite d) h = h
        keeps Free h = tt

        by : (t : Bool) → same_point (base x) (base y) ≡ t → IsTightestOf s b x y (elim t [ true ↦ apart s (rules x) (rules y) | false ↦ bound_less (bound_plus (far_in s.premises (base x) (base y)) (high s (rules y))) (low s (rules x)) ])
        by true e =
            let f : Bound = apart s (rules x) (rules y) in
            from_parts f (keeps f (λ time is. kept_same in_x in_y time is ((Decides-same_point (base x) (base y)).0 e))) (reached_same e) (passed_same e)
        by false e =
            let f : Bound = bound_less (bound_plus (far_in s.premises (base x) (base y)) (high s (rules y))) (low s (rules x)) in
            from_parts f (keeps f (λ time is. kept_other in_x in_y time is)) (reached_other e) (passed_other e)

-- ---- what is sure

module _ (s : Standing) (b : List Moment) (x y : Moment) where
  at_most : (f : Bound) → IsTightestOf s b y x f → (m : ℤ) → IsTrue (bound_at_most f m) ↔ ((time : Moment → ℤ) → IsTiming s b time → (time x -ℤ time y) ≤ℤ m)
  at_most (Finite d) (keeps, (time, is, reaches)) m = (λ t other is_other. later d m (other x -ℤ other y) t (keeps other is_other), λ h. within d m (time x -ℤ time y) reaches (h time is))
    where
      later : (d m v : ℤ) → IsTrue (int_le d m) → v ≤ℤ d → v ≤ℤ m
      later d m v t h = grind (arith, ints)

      within : (d m v : ℤ) → v ≡ d → v ≤ℤ m → IsTrue (int_le d m)
      within d m v e h = grind (arith, ints)
  at_most Free exceeds m = (λ t. cc, λ h. let (time, is, above) = exceeds m in absurd (never m (time x -ℤ time y) above (h time is)))
    where
      never : (m v : ℤ) → m <ℤ v → v ≤ℤ m → ⊥
      never m v h k = omega (arith, ints)

  pub sure : IsSound s → Contains b x → Contains b y → IsSureOf s b x y
  sure sound in_x in_y =
      let f : Bound = distance s (far_in s.premises) y x in
      let tight : IsTightestOf s b y x f = tightest s sound b y x in_y in_x in
      let by = at_most f tight (pos 0) in
      let before = at_most f tight (negsuc 0) in
      record {
        by = (λ t time is. le (time x) (time y) (by.0 t time is), λ h. by.1 (λ time is. from_le (time x) (time y) (h time is)));
        before = (λ t time is. lt (time x) (time y) (before.0 t time is), λ h. before.1 (λ time is. from_lt (time x) (time y) (h time is)));
      }
    where
      le : (a c : ℤ) → (a -ℤ c) ≤ℤ pos 0 → a ≤ℤ c
      le a c h = omega (arith, ints)

      from_le : (a c : ℤ) → a ≤ℤ c → (a -ℤ c) ≤ℤ pos 0
      from_le a c h = omega (arith, ints)

      lt : (a c : ℤ) → (a -ℤ c) ≤ℤ negsuc 0 → a <ℤ c
      lt a c h = omega (arith, ints)

      from_lt : (a c : ℤ) → a <ℤ c → (a -ℤ c) ≤ℤ negsuc 0
      from_lt a c h = omega (arith, ints)
