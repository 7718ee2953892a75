-- The earliest dates of declared points are dates of the list.
use Rattle.std.proofs.Common.{◌≡◌, ◌∙◌, ℕ, List, [], ◌∷◌, refl, sym, ap, subst, inl, inr, arith}
use Rattle.std.proofs.lemmas.Int.{ints}
use Rattle.std.proofs.lemmas.List.Elements.{All-contains}
use Rattle.std.specs.Prelude.{ℤ, pos, neg_ℤ, ◌-ℤ◌, ◌+ℤ◌, ◌≤ℤ◌, Bool, true, false}
use Rattle.std.specs.List.{Contains}
use Rattle.tmm_model.specs.declared.bound.Bound.{Bound}
use Rattle.tmm_model.specs.declared.bound.Bound.TheVariants.{Finite, Free}
use Rattle.tmm_model.specs.declared.point.PointName.{PointName}
use Rattle.tmm_model.specs.declared.point.PointName.TheVariants.{Start, Begin}
use Rattle.tmm_model.specs.declared.premise.Premise.{Premise}
use Rattle.tmm_model.specs.declared.premise.Premise.TheVariants.{Class, Kind, Point, Event, Token, Span, Dist, Rule, Protect, Against}
use Rattle.tmm_model.specs.Bounds.{bound_plus, bound_less}
use Rattle.tmm_model.specs.Moments.{Moment, At, base, rules, low, apart, early, negated}
use Rattle.tmm_model.specs.Points.{same_point}
use Rattle.tmm_model.specs.Standing.{Standing, points_of, points_in, base_step, length_step, arc_of, arcs_of, arcs_in, far_in}
use Rattle.tmm_model.specs.Walks.{Arc, IsDates, total}
use Rattle.walk_theory.specs.LeastWalks.{AtMost, IsFar, IsWalk}
use Rattle.walk_theory.proofs.Closing.{IsFar-first}
use Rattle.walk_theory.proofs.Members.{All-from_contains}
use Rattle.walk_theory.proofs.Points.{Decides-same_point}
use Rattle.list_theory.specs.WellNamed.{IsSound}
use Rattle.list_theory.proofs.Elements.{In, In-from_Contains, Contains-from_In, In-flat_map, flat_map-In}
use Rattle.list_theory.proofs.KnownNames.{arcs_among}
use Rattle.belief_theory.proofs.Sound.{far_in-IsFar, shortest}

-- ---- from each declared point constraints lead back to the start

module _ (premises : List Premise) where
  abbrev HasWayBack : PointName → Type 0
  HasWayBack p = (walk : List (Arc PointName)) × IsWalk (arcs_in premises) p Start walk × (total walk ≤ℤ pos 0)

  stands : (q : Premise) → In q premises → (e : Arc PointName) → In e (arcs_of q) → Contains (arcs_in premises) e
  stands q there e here = Contains-from_In (arcs_in premises) e (flat_map-In arcs_of premises q e there here)

  from_begin : (q : Premise) → In q premises → (name : List ℕ) → In (arc_of (base_step name)) (arcs_of q) → HasWayBack (Begin name)
  from_begin q there name here = (arc_of (base_step name) ∷ [], (stands q there (arc_of (base_step name)) here, refl, refl), omega (arith, ints))

  declared : (q : Premise) → In q premises → (p : PointName) → In p (points_of q) → HasWayBack p
  declared (Point name) there p (inl is) = subst HasWayBack is (from_begin (Point name) there name (inl refl))
  declared (Point name) there p (inr none) = absurd none
  declared (Event name kind) there p (inl is) = subst HasWayBack is (from_begin (Event name kind) there name (inl refl))
  declared (Event name kind) there p (inr none) = absurd none
  declared (Token name fact) there p (inl is) = subst HasWayBack is (from_begin (Token name fact) there name (inl refl))
  declared (Token name fact) there p (inr none) = absurd none
  declared (Span name fact) there p (inl is) = subst HasWayBack is (from_begin (Span name fact) there name (inl refl))
  declared (Span name fact) there p (inr (inl is)) =
      let q : Premise = Span name fact in
      subst HasWayBack is (
        arc_of (length_step name) ∷ arc_of (base_step name) ∷ [],
        (stands q there (arc_of (length_step name)) (inr (inl refl)), refl, (stands q there (arc_of (base_step name)) (inl refl), refl, refl)),
        omega (arith, ints),
      )
  declared (Span name fact) there p (inr (inr none)) = absurd none
  declared (Class name facts) there p none = absurd none
  declared (Kind name) there p none = absurd none
  declared (Dist name from to lo hi) there p none = absurd none
  declared (Rule name trigger lo hi effect given unless_facts) there p none = absurd none
  declared (Protect name fact from to) there p none = absurd none
  declared (Against name one other) there p none = absurd none

  way_back : (p : PointName) → Contains (points_in premises) p → HasWayBack p
  way_back p at = elim (In-from_Contains (points_in premises) p at) [
    | inl is ↦ ([], sym is, omega (arith, ints))
    | inr among ↦ let (q, there, here) = In-flat_map points_of premises p among in declared q there p here
  ]

module _ (s : Standing) (sound : IsSound s) where
  -- so each has a distance to it
  pub to_start : (p : PointName) → Contains (points_in s.premises) p → (d : ℤ) × (far_in s.premises p Start ≡ Finite d)
  to_start p at =
      let (walk, is, negative) = way_back s.premises p at in
      number (far_in s.premises p Start) (total walk) ((far_in-IsFar s sound p Start).least walk is)
    where
      number : (x : Bound) (m : ℤ) → AtMost x m → (d : ℤ) × (x ≡ Finite d)
      number (Finite d) m h = (d, refl)
      number Free m h = absurd h

  apart-nil : (u : List (List ℕ)) → apart s u [] ≡ Finite (pos 0 -ℤ low s u)
  apart-nil [] = refl
  apart-nil (r ∷ u) = refl

  -- the date of a moment to which rules lead from it: the least that they take, less that distance
  pub date_is : (x : Moment) (d : ℤ) → far_in s.premises (base x) Start ≡ Finite d → early s (far_in s.premises) x ≡ (low s (rules x) -ℤ d)
  date_is x d far = by (same_point (base x) Start) refl
    where
      one_number : {m n : ℤ} → Finite m ≡ Finite n → m ≡ n
      one_number h = cc

      at_zero : (l d : ℤ) → d ≡ pos 0 → neg_ℤ (pos 0 -ℤ l) ≡ (l -ℤ d)
      at_zero l d e = omega (arith, ints)

      turned : (d l : ℤ) → neg_ℤ ((d +ℤ pos 0) -ℤ l) ≡ (l -ℤ d)
      turned d l = omega (arith, ints)

      by : (t : Bool) → same_point (base x) Start ≡ t
          → negated (elim t [ true ↦ apart s (rules x) [] | false ↦ bound_less (bound_plus (far_in s.premises (base x) Start) (Finite (pos 0))) (low s (rules x)) ]) ≡ (low s (rules x) -ℤ d)
      by true e =
          let same : base x ≡ Start = (Decides-same_point (base x) Start).0 e in
          let zero : d ≡ pos 0 = one_number (sym far ∙ subst (λ p. far_in s.premises p Start ≡ Finite (pos 0)) (sym same) ((shortest s sound).itself Start)) in
          ap negated (apart-nil (rules x)) ∙ at_zero (low s (rules x)) d zero
      by false e = ap (λ f. negated (bound_less (bound_plus f (Finite (pos 0))) (low s (rules x)))) far ∙ turned d (low s (rules x))

  -- and each constraint is met
  pub date_met : (e : Arc PointName) → Contains (arcs_in s.premises) e → (early s (far_in s.premises) (At e.to) -ℤ early s (far_in s.premises) (At e.from)) ≤ℤ e.weight
  date_met e at =
      let known = All-contains (λ (y : Arc PointName). Contains (points_in s.premises) y.from × Contains (points_in s.premises) y.to) (arcs_in s.premises) e (arcs_among s.premises sound.well_named) at in
      let (c, to) = to_start e.to known.1 in
      let (a, from) = to_start e.from known.0 in
      by (early s (far_in s.premises) (At e.to)) (early s (far_in s.premises) (At e.from)) c a (date_is (At e.to) c to) (date_is (At e.from) a from)
      (IsFar-first (arcs_in s.premises) Start e (Finite c) (Finite a) c at (is_far e.to c to) (is_far e.from a from) (omega (arith, ints)))
    where
      is_far : (p : PointName) (d : ℤ) → far_in s.premises p Start ≡ Finite d → IsFar (arcs_in s.premises) p Start (Finite d)
      is_far p d is = subst (IsFar (arcs_in s.premises) p Start) is (far_in-IsFar s sound p Start)

      by : (y x c a : ℤ) → y ≡ (pos 0 -ℤ c) → x ≡ (pos 0 -ℤ a) → a ≤ℤ (e.weight +ℤ c) → (y -ℤ x) ≤ℤ e.weight
      by y x c a f g h = omega (arith, ints)

-- **The earliest dates satisfy every constraint.**
pub dates_satisfy : (s : Standing) → IsSound s → IsDates Start (arcs_in s.premises) (λ p. early s (far_in s.premises) (At p))
dates_satisfy s sound = record {
  at_start = refl;
  met = All-from_contains (λ e. (early s (far_in s.premises) (At e.to) -ℤ early s (far_in s.premises) (At e.from)) ≤ℤ e.weight) (arcs_in s.premises) (date_met s sound);
}
