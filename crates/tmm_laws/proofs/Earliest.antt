-- The earliest dates are a timing, and no timing has an earlier date.
use Rattle.std.proofs.Common.{◌≡◌, ◌∙◌, ℕ, Bool, true, false, List, [], ◌∷◌, ◌++◌, refl, sym, ap, subst, inl, inr, arith}
use Rattle.std.proofs.lemmas.Int.{ints}
use Rattle.std.proofs.lemmas.List.Elements.{All-contains}
use Rattle.std.specs.Prelude.{ℤ, pos, neg_ℤ, ◌+ℤ◌, ◌-ℤ◌, ◌≤ℤ◌}
use Rattle.std.specs.List.{All, Contains}
use Rattle.tmm_model.specs.declared.bound.Bound.{Bound}
use Rattle.tmm_model.specs.declared.bound.Bound.TheVariants.{Finite, Free}
use Rattle.tmm_model.specs.declared.point.PointName.{PointName}
use Rattle.tmm_model.specs.declared.point.PointName.TheVariants.{Start, Begin}
use Rattle.tmm_model.specs.declared.premise.Premise.{Premise}
use Rattle.tmm_model.specs.declared.premise.Premise.TheVariants.{Class, Kind, Point, Event, Token, Span, Dist, Rule, Protect, Against}
use Rattle.walk_theory.specs.LeastWalks.{AtMost, IsFar, IsWalk}
use Rattle.tmm_model.specs.Bounds.{bound_plus, bound_less}
use Rattle.tmm_model.specs.Moments.{Moment, At, After, base, rules, rule_of, low, apart, early, negated}
use Rattle.tmm_model.specs.Points.{same_point}
use Rattle.list_theory.specs.WellNamed.{IsSound}
use Rattle.tmm_model.specs.Standing.{Standing, points_of, points_in, base_step, length_step, arc_of, arcs_of, arcs_in, far_in}
use Rattle.tmm_model.specs.Walks.{Arc, total}
use Rattle.walk_theory.proofs.Closing.{IsFar-first}
use Rattle.list_theory.proofs.Elements.{In, In-from_Contains, Contains-from_In, In-flat_map, flat_map-In}
use Rattle.list_theory.proofs.KnownNames.{arcs_among}
use Rattle.walk_theory.proofs.Members.{All-from_contains}
use Rattle.walk_theory.proofs.Points.{Decides-same_point}
use Rattle.walk_theory.proofs.Reach.{difference-le_far}
use Rattle.belief_theory.proofs.Sound.{far_in-IsFar, shortest, sound_rules}
use Rattle.tmm_laws.specs.TimingLaw.{IsDelay, AreDelays, IsTiming, IsEarliest}
use Rattle.tmm_laws.proofs.Delays.{along-rules, low_kept, low-append, is_least}

-- ---- from a declared point a walk leads to the start

module _ (premises : List Premise) where
  abbrev HasWayBack : PointName → Type 0
  HasWayBack p = (walk : List (Arc PointName)) × IsWalk (arcs_in premises) p Start walk × (total walk ≤ℤ pos 0)

  way_back : (p : PointName) → Contains (points_in premises) p → HasWayBack p
  way_back p at = from_start (In-from_Contains (points_in premises) p at)
    where
      stands : (q : Premise) → In q premises → (e : Arc PointName) → In e (arcs_of q) → Contains (arcs_in premises) e
      stands q there e here = Contains-from_In (arcs_in premises) e (flat_map-In arcs_of premises q e there here)

      begins : (q : Premise) → In q premises → (name : List ℕ) → In (arc_of (base_step name)) (arcs_of q) → HasWayBack (Begin name)
      begins q there name here = (arc_of (base_step name) ∷ [], (stands q there (arc_of (base_step name)) here, refl, refl), omega (arith, ints))

      declares : (q : Premise) → In q premises → (p : PointName) → In p (points_of q) → HasWayBack p
      declares (Point name) there p (inl is) = subst HasWayBack is (begins (Point name) there name (inl refl))
      declares (Point name) there p (inr none) = absurd none
      declares (Event name kind) there p (inl is) = subst HasWayBack is (begins (Event name kind) there name (inl refl))
      declares (Event name kind) there p (inr none) = absurd none
      declares (Token name fact) there p (inl is) = subst HasWayBack is (begins (Token name fact) there name (inl refl))
      declares (Token name fact) there p (inr none) = absurd none
      declares (Span name fact) there p (inl is) = subst HasWayBack is (begins (Span name fact) there name (inl refl))
      declares (Span name fact) there p (inr (inl is)) =
          let q : Premise = Span name fact in
          subst HasWayBack is (
            arc_of (length_step name) ∷ arc_of (base_step name) ∷ [],
            (stands q there (arc_of (length_step name)) (inr (inl refl)), refl, (stands q there (arc_of (base_step name)) (inl refl), refl, refl)),
            omega (arith, ints),
          )
      declares (Span name fact) there p (inr (inr none)) = absurd none
      declares (Class name facts) there p none = absurd none
      declares (Kind name) there p none = absurd none
      declares (Dist name from to lo hi) there p none = absurd none
      declares (Rule name trigger lo hi effect given unless_facts) there p none = absurd none
      declares (Protect name fact from to) there p none = absurd none
      declares (Against name one other) there p none = absurd none

      from_start : In p (points_in premises) → HasWayBack p
      from_start (inl is) = ([], sym is, omega (arith, ints))
      from_start (inr among) = let (q, there, here) = In-flat_map points_of premises p among in declares q there p here

-- ---- the earliest date of a moment to which rules lead from a declared point

module _ (s : Standing) (sound : IsSound s) where
  abbrev IsDeclared : Moment → Type 0
  IsDeclared x = Contains (points_in s.premises) (base x)

  to_start : (p : PointName) → Contains (points_in s.premises) p → (d : ℤ) × (far_in s.premises p Start ≡ Finite d)
  to_start p at =
      let (walk, is, negative) = way_back s.premises p at in
      number (far_in s.premises p Start) (total walk) ((far_in-IsFar s sound p Start).least walk is)
    where
      number : (x : Bound) (m : ℤ) → AtMost x m → (d : ℤ) × (x ≡ Finite d)
      number (Finite d) m h = (d, refl)
      number Free m h = absurd h

  apart-nil : (u : List (List ℕ)) → apart s u [] ≡ Finite (pos 0 -ℤ low s u)
  apart-nil [] = refl
  apart-nil (r ∷ u) = refl

  early_is : (x : Moment) (d : ℤ) → far_in s.premises (base x) Start ≡ Finite d → early s (far_in s.premises) x ≡ (low s (rules x) -ℤ d)
  early_is x d far = by (same_point (base x) Start) refl
    where
      l : ℤ
      l = low s (rules x)

      apart_bounds : {m n : ℤ} → Finite m ≡ Finite n → m ≡ n
      apart_bounds h = cc

      at_zero : (l d : ℤ) → d ≡ pos 0 → neg_ℤ (pos 0 -ℤ l) ≡ (l -ℤ d)
      at_zero l d e = omega (arith, ints)

      turned : (d l : ℤ) → neg_ℤ ((d +ℤ pos 0) -ℤ l) ≡ (l -ℤ d)
      turned d l = omega (arith, ints)

      by : (t : Bool) → same_point (base x) Start ≡ t
          → negated (elim t [ true ↦ apart s (rules x) [] | false ↦ bound_less (bound_plus (far_in s.premises (base x) Start) (Finite (pos 0))) (low s (rules x)) ]) ≡ (low s (rules x) -ℤ d)
      by true e =
          let same : base x ≡ Start = (Decides-same_point (base x) Start).0 e in
          let zero : d ≡ pos 0 = apart_bounds (sym far ∙ subst (λ p. far_in s.premises p Start ≡ Finite (pos 0)) (sym same) ((shortest s sound).itself Start)) in
          ap negated (apart-nil (rules x)) ∙ at_zero (low s (rules x)) d zero
      by false e = ap (λ f. negated (bound_less (bound_plus f (Finite (pos 0))) (low s (rules x)))) far ∙ turned d (low s (rules x))

  -- ---- the earliest dates are a timing

  early_met : (e : Arc PointName) → Contains (arcs_in s.premises) e → (early s (far_in s.premises) (At e.to) -ℤ early s (far_in s.premises) (At e.from)) ≤ℤ e.weight
  early_met e at =
      let known = All-contains (λ (y : Arc PointName). Contains (points_in s.premises) y.from × Contains (points_in s.premises) y.to) (arcs_in s.premises) e (arcs_among s.premises sound.well_named) at in
      let (c, to) = to_start e.to known.1 in
      let (a, from) = to_start e.from known.0 in
      by (early s (far_in s.premises) (At e.to)) (early s (far_in s.premises) (At e.from)) c a (early_is (At e.to) c to) (early_is (At e.from) a from)
      (IsFar-first (arcs_in s.premises) Start e (Finite c) (Finite a) c at (is_far e.to c to) (is_far e.from a from) (omega (arith, ints)))
    where
      is_far : (p : PointName) (d : ℤ) → far_in s.premises p Start ≡ Finite d → IsFar (arcs_in s.premises) p Start (Finite d)
      is_far p d is = subst (IsFar (arcs_in s.premises) p Start) is (far_in-IsFar s sound p Start)

      by : (y x c a : ℤ) → y ≡ (pos 0 -ℤ c) → x ≡ (pos 0 -ℤ a) → a ≤ℤ (e.weight +ℤ c) → (y -ℤ x) ≤ℤ e.weight
      by y x c a f g h = omega (arith, ints)

  early_delays : (x : Moment) → IsDeclared x → AreDelays s (early s (far_in s.premises)) x
  early_delays (At p) known = tt
  early_delays (After t r) known =
      let (d, far) = to_start (base t) known in (
        early_delays t known,
        subst (IsDelay (rule_of s r))
            (by (early s (far_in s.premises) (After t r)) (early s (far_in s.premises) t) (low s (rules t ++ r ∷ [])) (low s (rules t)) (rule_of s r).lo d (early_is (After t r) d far) (early_is t d far) (low-append s (rules t) r))
            (omega (arith, ints), is_least (rule_of s r).lo (rule_of s r).hi ((sound_rules s sound).sound r)),
      )
    where
      by : (y x m l lo d : ℤ) → y ≡ (m -ℤ d) → x ≡ (l -ℤ d) → m ≡ (l +ℤ lo) → lo ≡ (y -ℤ x)
      by y x m l lo d e f g = omega (arith, ints)

  pub earliest : (b : List Moment) → All IsDeclared b → IsEarliest s b (early s (far_in s.premises))
  earliest b known = record {
    timing = record {
      dates = record { at_start = refl; met = All-from_contains (λ e. (early s (far_in s.premises) (At e.to) -ℤ early s (far_in s.premises) (At e.from)) ≤ℤ e.weight) (arcs_in s.premises) early_met };
      delays = All-from_contains (AreDelays s (early s (far_in s.premises))) b (λ x at. early_delays x (All-contains IsDeclared b x known at));
    };
    least = λ other is. All-from_contains (λ x. early s (far_in s.premises) x ≤ℤ other x) b (λ x at. no_earlier other is x at (All-contains IsDeclared b x known at));
  }
    where
      no_earlier : (other : Moment → ℤ) → IsTiming s b other → (x : Moment) → Contains b x → IsDeclared x → early s (far_in s.premises) x ≤ℤ other x
      no_earlier other is x at declared =
          let (d, far) = to_start (base x) declared in
          let least = subst (IsFar (arcs_in s.premises) (base x) Start) far (far_in-IsFar s sound (base x) Start) in
          let after = subst (λ z. low s (rules x) ≤ℤ (other z -ℤ other (At (base x)))) (along-rules x)
          (low_kept s other (At (base x)) (rules x) (subst (AreDelays s other) (sym (along-rules x)) (All-contains (AreDelays s other) b x is.delays at))) in
          by (early s (far_in s.premises) x) (other x) (other (At (base x))) (other (At Start)) (low s (rules x)) d (early_is x d far) after (difference-le_far Start (arcs_in s.premises) (base x) Start d least (λ p. other (At p)) is.dates) is.dates.at_start
        where
          by : (e x a z l d : ℤ) → e ≡ (l -ℤ d) → l ≤ℤ (x -ℤ a) → (z -ℤ a) ≤ℤ d → z ≡ pos 0 → e ≤ℤ x
          by e x a z l d is after keeps zero = omega (arith, ints)
