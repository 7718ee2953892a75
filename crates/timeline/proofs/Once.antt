-- What is known on a day occurs, and no occurrence is known twice.
use Rattle.std.proofs.Common.{◌≡◌, ◌∙◌, ℕ, zero, suc, Bool, List, [], ◌∷◌, ◌++◌, Option, Some, None, refl, sym, ap, subst, inl, inr, arith}
use Rattle.std.proofs.lemmas.Int.{ints}
use Rattle.std.specs.Prelude.{ℤ, pos, ◌<ℤ◌, filter}
use Rattle.std.proofs.lemmas.Bool.Decides.{Decides-int_eq}
use Rattle.std.specs.Option.{option_map_or}
use Rattle.std.specs.List.{filter_map, cons_option, flat_map}
use Rattle.std.specs.Cmp.Lexicographic.{bytes_decides}
use Rattle.tmm_model.specs.declared.point.PointName.TheVariants.{Start, Begin, End}
use Rattle.tmm_model.specs.declared.premise.Premise.{Premise}
use Rattle.tmm_model.specs.declared.premise.Premise.TheVariants.{Class, Kind, Point, Event, Token, Span, Dist, Rule, Protect, Against}
use Rattle.tmm_model.specs.declared.token.Shape.{Shape}
use Rattle.tmm_model.specs.declared.token.Shape.TheVariants.{Event as AnEvent, Persistence as APersistence, Span as ASpan}
use Rattle.tmm_model.specs.Beliefs.{root_of, roots, is_of, on_kind, rules_for, rules_at, tokens}
use Rattle.tmm_model.specs.Maps.{built}
use Rattle.tmm_model.specs.Moments.{Moment, At, After}
use Rattle.list_theory.specs.WellNamed.{IsSound, AllFollow}
use Rattle.tmm_model.specs.Standing.{Standing, name_of}
use Rattle.list_theory.proofs.Distinct.{Distinct, Distinct-append, Distinct-filter, Distinct-map, Distinct-flat_map}
use Rattle.list_theory.proofs.Elements.{In, In-filter_map, In-right, In-cases, In-flat_map, In-map, In-filter, Contains-from_In}
use Rattle.belief_theory.specs.Right.{Occurs}
use Rattle.timeline.specs.Days.{Day, date, comes_on, is_held, holding_on, brings_about, effects_of, before_day}
use Rattle.timeline.proofs.DayByDay.{next_day-is, first_known-is}
use Rattle.list_theory.proofs.KnownNames.{fresh}
use Rattle.belief_theory.proofs.Sound.{named_rule}

-- what is told of a premise stands once, where it tells the premise's name
module _ {Y : Type 0} (told : Premise → Option Y) (name : Y → List ℕ) (named : (p : Premise) (y : Y) → told p ≡ Some y → name_of p ≡ name y) where
  told_once : (earlier premises : List Premise) → AllFollow earlier premises → Distinct (filter_map told premises)
  told_once earlier [] follow = tt
  told_once earlier (p ∷ premises) follow = by (told_once (earlier ++ p ∷ []) premises follow.1) (told p) refl
    where
      by : Distinct (filter_map told premises) → (o : Option Y) → told p ≡ o → Distinct (cons_option o (filter_map told premises))
      by rest None is = rest
      by rest (Some y) is = (
        (λ at.
            (let (q, there, also) = In-filter_map told premises y at in
            fresh (earlier ++ p ∷ []) premises follow.1 q there p (In-right earlier (p ∷ []) p (inl refl)) ((bytes_decides (name_of q) (name_of p)).1 (named q y also ∙ sym (named p y is))))),
        rest,
      )

-- the name of a declared event, token or span
root_name : Moment → List ℕ
root_name (At (Begin k)) = k
root_name (At Start) = []
root_name (At (End k)) = []
root_name (After t r) = []

named_root : (p : Premise) (y : Moment) → root_of p ≡ Some y → name_of p ≡ root_name y
unfolding root_name
named_root (Event name kind) y e = ap (λ (o : Option Moment). option_map_or root_name o []) e
named_root (Token name fact) y e = ap (λ (o : Option Moment). option_map_or root_name o []) e
named_root (Span name fact) y e = ap (λ (o : Option Moment). option_map_or root_name o []) e
named_root (Class name facts) y e = cc
named_root (Kind name) y e = cc
named_root (Point name) y e = cc
named_root (Dist name from to lo hi) y e = cc
named_root (Rule name trigger lo hi effect given unless_facts) y e = cc
named_root (Protect name fact from to) y e = cc
named_root (Against name one other) y e = cc

-- no root stands twice
pub roots_once : (s : Standing) → IsSound s → Distinct (roots s)
roots_once s sound = told_once root_of root_name named_root [] s.premises sound.well_named

-- no rule at an event stands twice
pub rules_once : (s : Standing) → IsSound s → (t : Moment) → Distinct (rules_at s t)
rules_once s sound t = by (is_of s t)
  where
    by : (o : Option (Shape × List ℕ)) → Distinct (rules_for s o)
    by (Some (AnEvent, kind)) = told_once (on_kind kind) (λ r. r) (named_rule kind) [] s.premises sound.well_named
    by (Some (APersistence, fact)) = tt
    by (Some (ASpan, fact)) = tt
    by None = tt

-- ---- what is known before a day

module _ (s : Standing) (sound : IsSound s) where
  abbrev coming : ℕ → List Moment
  coming d = filter (comes_on (built s) d) (before_day (built s) d).played

  abbrev effects : ℕ → List Moment
  effects d = flat_map (effects_of (built s) (is_held (holding_on (built s) d (tokens s (coming d)) (before_day (built s) d).holding))) (coming d)

  known_next : (d : ℕ) → (before_day (built s) (suc d)).played ≡ (before_day (built s) d).played ++ effects d
  known_next d = ap (λ (y : Day). y.played) (next_day-is (built s) d)

  -- an effect of a day, with its event and its rule
  record IsEffect (d : ℕ) (x : Moment) : Type 0 where
    event : Moment
    rule : List ℕ
    is : After event rule ≡ x
    known : In event (before_day (built s) d).played
    today : date (built s) event ≡ pos d
    stands : In rule (rules_at s event)

  effect_of : (d : ℕ) (x : Moment) → In x (effects d) → IsEffect d x
  effect_of d x at =
      let test = is_held (holding_on (built s) d (tokens s (coming d)) (before_day (built s) d).holding) in
      let (t, there, from) = In-flat_map (effects_of (built s) test) (coming d) x at in
      let (r, passes, is) = In-map (After t) (filter (brings_about (built s) test t) (rules_at s t)) x from in
      let (stands, _) = In-filter (brings_about (built s) test t) (rules_at s t) r passes in
      let (known, now) = In-filter (comes_on (built s) d) (before_day (built s) d).played t there in
      record { event = t; rule = r; is = is; known = known; today = (Decides-int_eq (date (built s) t) (pos d)).0 now; stands = stands }

  -- **What is known occurs.**
  pub known_occurs : (d : ℕ) (x : Moment) → In x (before_day (built s) d).played → Occurs s x
  known_occurs zero x at = root_occurs x (subst (In x) (first_known-is (built s)) at)
    where
      root_occurs : (x : Moment) → In x (roots s) → Occurs s x
      root_occurs (At p) at = Contains-from_In (roots s) (At p) at
      root_occurs (After t r) at = let (p, _, is) = In-filter_map root_of s.premises (After t r) at in absurd (never p is)
        where
          never : (p : Premise) → root_of p ≡ Some (After t r) → ⊥
          never (Event name kind) e = cc
          never (Token name fact) e = cc
          never (Span name fact) e = cc
          never (Class name facts) e = cc
          never (Kind name) e = cc
          never (Point name) e = cc
          never (Dist name from to lo hi) e = cc
          never (Rule name trigger lo hi effect given unless_facts) e = cc
          never (Protect name fact from to) e = cc
          never (Against name one other) e = cc
  known_occurs (suc d) x at = elim (In-cases (before_day (built s) d).played (effects d) x (subst (In x) (known_next d) at)) [
    | inl before ↦ known_occurs d x before
    | inr new ↦ (
        let e = effect_of d x new in
        subst (Occurs s) e.is (known_occurs d e.event e.known, Contains-from_In (rules_at s e.event) e.rule e.stands))
  ]

  -- the event of what is known has come before
  event_before : (d : ℕ) (t : Moment) (r : List ℕ) → In (After t r) (before_day (built s) d).played → date (built s) t <ℤ pos d
  event_before zero t r at = absurd (let (p, _, is) = In-filter_map root_of s.premises (After t r) (subst (In (After t r)) (first_known-is (built s)) at) in never p is)
    where
      never : (p : Premise) → root_of p ≡ Some (After t r) → ⊥
      never (Event name kind) e = cc
      never (Token name fact) e = cc
      never (Span name fact) e = cc
      never (Class name facts) e = cc
      never (Kind name) e = cc
      never (Point name) e = cc
      never (Dist name from to lo hi) e = cc
      never (Rule name trigger lo hi effect given unless_facts) e = cc
      never (Protect name fact from to) e = cc
      never (Against name one other) e = cc
  event_before (suc d) t r at = elim (In-cases (before_day (built s) d).played (effects d) (After t r) (subst (In (After t r)) (known_next d) at)) [
    | inl before ↦ sooner (date (built s) t) (event_before d t r before)
    | inr new ↦ (let e = effect_of d (After t r) new in let same : e.event ≡ t = one e.event t e.rule r e.is in today (date (built s) t) (ap (date (built s)) (sym same) ∙ e.today))
  ]
    where
      sooner : (z : ℤ) → z <ℤ pos d → z <ℤ pos (suc d)
      sooner z h = omega (arith, ints)

      today : (z : ℤ) → z ≡ pos d → z <ℤ pos (suc d)
      today z h = omega (arith, ints)

      one : (t u : Moment) (r q : List ℕ) → After t r ≡ After u q → t ≡ u
      one t u r q e = cc

  -- **Nothing is known twice.**
  pub known_once : (d : ℕ) → Distinct (before_day (built s) d).played
  known_once zero = subst Distinct (sym (first_known-is (built s))) (roots_once s sound)
  known_once (suc d) = subst Distinct (sym (known_next d)) (Distinct-append (before_day (built s) d).played (effects d) (known_once d)
      (Distinct-flat_map (effects_of (built s) test) each one_event (coming d) (Distinct-filter (comes_on (built s) d) (before_day (built s) d).played (known_once d)))
      (λ x before new. (let e = effect_of d x new in
      later (date (built s) e.event) e.today (event_before d e.event e.rule (subst (λ z. In z (before_day (built s) d).played) (sym e.is) before)))))
    where
      test : List ℕ → Bool
      test = is_held (holding_on (built s) d (tokens s (coming d)) (before_day (built s) d).holding)

      each : (t : Moment) → Distinct (effects_of (built s) test t)
      each t = Distinct-map (After t) (λ q r e. let one : q ≡ r = cc in one) (filter (brings_about (built s) test t) (rules_at s t)) (Distinct-filter (brings_about (built s) test t) (rules_at s t) (rules_once s sound t))

      one_event : (t u y : Moment) → In y (effects_of (built s) test t) → In y (effects_of (built s) test u) → t ≡ u
      one_event t u y h g =
          let (r, _, e) = In-map (After t) (filter (brings_about (built s) test t) (rules_at s t)) y h in
          let (q, _, f) = In-map (After u) (filter (brings_about (built s) test u) (rules_at s u)) y g in
          let same : After t r ≡ After u q = e ∙ sym f in
          cc

      later : (z : ℤ) → z ≡ pos d → z <ℤ pos d → ⊥
      later z e h = omega (arith, ints)
