-- What comes on which day, and what holds on it, without the day before.
use Rattle.std.proofs.Common.{◌≡◌, ℕ, zero, suc, ◌+◌, ◌-◌, ◌≤◌, true, ◌&&◌, List, [], ◌++◌, refl, sym, subst, inl, inr, arith}
use Rattle.std.proofs.lemmas.Int.{ints}
use Rattle.std.proofs.lemmas.Bool.Decides.{Decides-int_eq}
use Rattle.std.specs.Prelude.{◌⊎◌, ℤ, pos, ◌+ℤ◌, ◌≤ℤ◌, ◌<ℤ◌, int_le, filter, Some}
use Rattle.std.specs.List.{flat_map}
use Rattle.tmm_model.specs.declared.premise.Premise.{Premise}
use Rattle.tmm_model.specs.declared.premise.Premise.TheVariants.{Class, Kind, Point, Event, Token, Span, Dist, Rule, Protect, Against}
use Rattle.tmm_model.specs.declared.token.TokenRow.{TokenRow}
use Rattle.tmm_model.specs.Beliefs.{root_of, roots, rules_at, due, tokens}
use Rattle.tmm_model.specs.Maps.{built}
use Rattle.tmm_model.specs.Moments.{Moment, At, After, early, rule_of}
use Rattle.tmm_model.specs.Standing.{Standing, far_in}
use Rattle.belief_theory.specs.Right.{Occurs}
use Rattle.belief_theory.proofs.SoundBeliefs.{sound_timed}
use Rattle.list_theory.specs.WellNamed.{IsSound}
use Rattle.list_theory.proofs.Elements.{In, both, Contains-from_In, In-left, In-right, In-cases, In-flat_map, flat_map-In, In-map, map-In, In-filter, filter-In, In-filter_map}
use Rattle.timeline.specs.Days.{date, comes_on, is_held, is_open, brings_about, effects_of, before_day, holds_on, played}

-- no effect is declared to occur
pub no_effect : (s : Standing) (t : Moment) (r : List ℕ) → In (After t r) (roots s) → ⊥
no_effect s t r at = let (p, there, e) = In-filter_map root_of s.premises (After t r) at in by p e
  where
    by : (p : Premise) → root_of p ≡ Some (After t r) → ⊥
    by (Event name kind) e = cc
    by (Token name fact) e = cc
    by (Span name fact) e = cc
    by (Class name facts) e = cc
    by (Kind name) e = cc
    by (Point name) e = cc
    by (Dist name from to lo hi) e = cc
    by (Rule name trigger lo hi effect given unless_facts) e = cc
    by (Protect name fact from to) e = cc
    by (Against name one other) e = cc

-- each declared event, token or span occurs
root_occurs : (s : Standing) (x : Moment) → In x (roots s) → Occurs s x
root_occurs s (At p) at = Contains-from_In (roots s) (At p) at
root_occurs s (After t r) at = absurd (no_effect s t r at)

module _ (s : Standing) (sound : IsSound s) where
  -- what is known before a day, and what holds on it
  abbrev pub known : ℕ → List Moment
  known d = (before_day (built s) d).played

  abbrev pub holding : ℕ → List (TokenRow Moment)
  holding d = (before_day (built s) (suc d)).holding

  -- what comes on a day
  abbrev pub coming : ℕ → List Moment
  coming d = filter (comes_on (built s) d) (known d)

  pub known-next : (d : ℕ) → known (suc d) ≡ known d ++ flat_map (effects_of (built s) (is_held (holding d))) (coming d)
  unfolding before_day
  known-next d = refl

  pub known-first : known 0 ≡ roots s
  unfolding before_day
  known-first = refl

  pub holding-first : holding 0 ≡ tokens s (coming 0) ++ []
  unfolding before_day
  holding-first = refl

  pub holding-next : (d : ℕ) → holding (suc d) ≡ tokens s (coming (suc d)) ++ filter (holds_on (built s) (suc d) (tokens s (coming (suc d)))) (holding d)
  unfolding before_day
  holding-next d = refl

  -- the rule r brings about its effect on t on the day d
  pub record Brings (d : ℕ) (t : Moment) (r : List ℕ) : Type 0 where
    pub there : In t (known d)
    pub on : date (built s) t ≡ pos d
    pub stands : In r (rules_at s t)
    pub in_time : due s (far_in s.premises) t r ≤ℤ pos s.horizon
    pub opened : is_open (is_held (holding d)) (rule_of s r) ≡ true

  at_most : (x y : ℤ) → int_le x y ≡ true → x ≤ℤ y
  at_most x y h = grind (arith, ints)

  is_at_most : (x y : ℤ) → x ≤ℤ y → int_le x y ≡ true
  is_at_most x y h = grind (arith, ints)

  comes : (d : ℕ) (t : Moment) → comes_on (built s) d t ≡ true → date (built s) t ≡ pos d
  comes d t h = (Decides-int_eq (date (built s) t) (pos d)).0 h

  does_come : (d : ℕ) (t : Moment) → date (built s) t ≡ pos d → comes_on (built s) d t ≡ true
  does_come d t h = (Decides-int_eq (date (built s) t) (pos d)).1 h

  pub known_cases : (d : ℕ) (x : Moment) → In x (known (suc d)) → In x (known d) ⊎ ((t : Moment) × (r : List ℕ) × (After t r ≡ x) × Brings d t r)
  known_cases d x at = elim (In-cases (known d) (flat_map (effects_of (built s) (is_held (holding d))) (coming d)) x (subst (In x) (known-next d) at)) [
    | inl before ↦ inl before
    | inr new ↦
        let (t, there, here) = In-flat_map (effects_of (built s) (is_held (holding d))) (coming d) x new in
        let (known_t, on) = In-filter (comes_on (built s) d) (known d) t there in
        let (r, kept, same) = In-map (After t) (filter (brings_about (built s) (is_held (holding d)) t) (rules_at s t)) x here in
        let (stands, brings) = In-filter (brings_about (built s) (is_held (holding d)) t) (rules_at s t) r kept in
        let parts = both (int_le (due s (far_in s.premises) t r) (pos s.horizon)) (is_open (is_held (holding d)) (rule_of s r)) brings in
        inr (
          t,
          r,
          same,
          record {
            there = known_t;
            on = comes d t on;
            stands = stands;
            in_time = at_most (due s (far_in s.premises) t r) (pos s.horizon) parts.0;
            opened = parts.1;
          },
        )
  ]

  pub known_on : (d : ℕ) (x : Moment) → In x (known d) → In x (known (suc d))
  known_on d x at = subst (In x) (sym (known-next d)) (In-left (known d) (flat_map (effects_of (built s) (is_held (holding d))) (coming d)) x at)

  pub brought : (d : ℕ) (t : Moment) (r : List ℕ) → Brings d t r → In (After t r) (known (suc d))
  brought d t r b =
      let brings : brings_about (built s) (is_held (holding d)) t r ≡ true = λ i. is_at_most (due s (far_in s.premises) t r) (pos s.horizon) b.in_time i && b.opened i in
      subst (In (After t r)) (sym (known-next d))
      (In-right (known d) (flat_map (effects_of (built s) (is_held (holding d))) (coming d)) (After t r)
      (flat_map-In (effects_of (built s) (is_held (holding d))) (coming d) t (After t r)
      (filter-In (comes_on (built s) d) (known d) t b.there (does_come d t b.on))
      (map-In (After t) (filter (brings_about (built s) (is_held (holding d)) t) (rules_at s t)) r
      (filter-In (brings_about (built s) (is_held (holding d)) t) (rules_at s t) r b.stands brings))))

  -- ---- what is known occurs, and comes on its own day

  pub known_occurs : (d : ℕ) (x : Moment) → In x (known d) → Occurs s x
  known_occurs zero x at = root_occurs s x (subst (In x) known-first at)
  known_occurs (suc d) x at = elim (known_cases d x at) [
    | inl before ↦ known_occurs d x before
    | inr (t, r, same, b) ↦ subst (Occurs s) same (known_occurs d t b.there, Contains-from_In (rules_at s t) r b.stands)
  ]

  -- what a day brings about comes later
  after_day : (d : ℕ) (t : Moment) (r : List ℕ) → Brings d t r → pos d <ℤ date (built s) (After t r)
  after_day d t r b =
      by (date (built s) t) (rule_of s r).lo (date (built s) (After t r)) b.on
      ((sound_timed s sound).due_is t r (known_occurs d t b.there) (Contains-from_In (rules_at s t) r b.stands))
      ((sound_timed s sound).delayed t r (Contains-from_In (rules_at s t) r b.stands))
    where
      by : (a lo e : ℤ) → a ≡ pos d → e ≡ (a +ℤ lo) → pos 1 ≤ℤ lo → pos d <ℤ e
      by a lo e on is delay = omega (arith, ints)

  known_back : (d : ℕ) (x : Moment) → In x (known (suc d)) → date (built s) x ≤ℤ pos d → In x (known d)
  known_back d x at early = elim (known_cases d x at) [
    | inl before ↦ before
    | inr (t, r, same, b) ↦ absurd (never (date (built s) x) (subst (λ y. pos d <ℤ date (built s) y) same (after_day d t r b)) early)
  ]
    where
      never : (z : ℤ) → pos d <ℤ z → z ≤ℤ pos d → ⊥
      never z h g = omega (arith, ints)

  known_since : (d n : ℕ) (x : Moment) → In x (known d) → In x (known (d + n))
  known_since d zero x at = subst (λ k. In x (known k)) (omega arith) at
  known_since d (suc n) x at = subst (λ k. In x (known k)) (omega arith) (known_on (d + n) x (known_since d n x at))

  known_by : (d n : ℕ) (x : Moment) → In x (known (d + n)) → date (built s) x ≤ℤ pos d → In x (known d)
  known_by d zero x at early = subst (λ k. In x (known k)) (omega arith) at
  known_by d (suc n) x at early =
      let at_next : In x (known (suc (d + n))) = subst (λ k. In x (known k)) (omega arith) at in
      known_by d n x (known_back (d + n) x at_next (further (date (built s) x) d n early)) early
    where
      further : (z : ℤ) (d n : ℕ) → z ≤ℤ pos d → z ≤ℤ pos (d + n)
      further z d n h = omega (arith, ints)

  -- what occurs in all
  abbrev pub all : List Moment
  all = played (built s)

  pub known_all : (d : ℕ) → d ≤ suc s.horizon → (x : Moment) → In x (known d) → In x all
  known_all d le x at = subst (λ k. In x (known k)) (rest d (suc s.horizon) le) (known_since d (suc s.horizon - d) x at)
    where
      rest : (d n : ℕ) → d ≤ n → d + (n - d) ≡ n
      rest d n le = omega arith

  pub all_known : (d : ℕ) → d ≤ suc s.horizon → (x : Moment) → In x all → date (built s) x ≤ℤ pos d → In x (known d)
  all_known d le x at early = known_by d (suc s.horizon - d) x (subst (λ k. In x (known k)) (sym (rest d (suc s.horizon) le)) at) early
    where
      rest : (d n : ℕ) → d ≤ n → d + (n - d) ≡ n
      rest d n le = omega arith

  pub all_occur : (x : Moment) → In x all → Occurs s x
  all_occur = known_occurs (suc s.horizon)
