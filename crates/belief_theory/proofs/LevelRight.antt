-- Each level is right up to its number.
use Rattle.std.proofs.Common.{◌≡◌, ℕ, zero, suc, Bool, true, false, List, refl, sym, subst, arith, inl, inr}
use Rattle.std.proofs.lemmas.Int.{ints}
use Rattle.std.proofs.lemmas.Bool.Decides.{Decides-int_eq}
use Rattle.std.specs.Prelude.{Some, ◌⊎◌, ℤ, pos, ◌+ℤ◌, ◌≤ℤ◌, ◌<ℤ◌, filter}
use Rattle.std.specs.Ordering.{int_eq}
use Rattle.std.specs.List.{Contains, flat_map}
use Rattle.tmm_model.specs.declared.premise.Premise.{Premise}
use Rattle.tmm_model.specs.declared.premise.Premise.TheVariants.{Class, Kind, Point, Event, Token, Span, Dist, Rule, Protect, Against}
use Rattle.tmm_model.specs.Moments.{Moment, At, After, Distances, early, rule_of}
use Rattle.tmm_model.specs.Standing.{Standing}
use Rattle.tmm_model.specs.Beliefs.{root_of, roots, rules_at, due, is_free, enters, effects, next_level, level, beliefs}
use Rattle.belief_theory.specs.Right.{Occurs, Fires, Belongs, IsRightTo, IsRight, IsTimed}
use Rattle.list_theory.proofs.Elements.{In, In-from_Contains, Contains-from_In, In-left, In-right, In-cases, In-flat_map, flat_map-In, In-map, map-In, In-filter, filter-In, In-filter_map}
use Rattle.belief_theory.proofs.OneRight.{Agree, turned, occurs, free_kept, later}

-- no root is an effect
not_root : (s : Standing) (t : Moment) (r : List ℕ) → In (After t r) (roots s) → ⊥
not_root s t r at = let (p, there, e) = In-filter_map root_of s.premises (After t r) at in by p e
  where
    by : (p : Premise) → root_of p ≡ Some (After t r) → ⊥
    by (Event name kind) e = cc
    by (Token name fact) e = cc
    by (Span name fact) e = cc
    by (Class name facts) e = cc
    by (Kind name) e = cc
    by (Point name) e = cc
    by (Dist name from to lo hi) e = cc
    by (Rule name trigger lo hi effect given unless_facts) e = cc
    by (Protect name fact from to) e = cc
    by (Against name one other) e = cc

module _ (s : Standing) (far : Distances) (timed : IsTimed s far) where
  -- what enters at n
  pub record Enters (n : ℕ) (b : List Moment) (t : Moment) (r : List ℕ) : Type 0 where
    pub believed : Contains b t
    pub stands : Contains (rules_at s t) r
    pub at_n : due s far t r ≡ pos n
    pub free : is_free s far b t r ≡ true

  entered_when : (b : List Moment) (n : ℕ) (t : Moment) (r : List ℕ) → enters s far b n t r ≡ true → (due s far t r ≡ pos n) × (is_free s far b t r ≡ true)
  entered_when b n t r h = by (int_eq (due s far t r) (pos n)) refl h
    where
      by : (e : Bool) → int_eq (due s far t r) (pos n) ≡ e → (elim e [ true ↦ is_free s far b t r | false ↦ false ]) ≡ true → (due s far t r ≡ pos n) × (is_free s far b t r ≡ true)
      by true e h = ((Decides-int_eq (due s far t r) (pos n)).0 e, h)
      by false e h = cc

  enters_when : (b : List Moment) (n : ℕ) (t : Moment) (r : List ℕ) → due s far t r ≡ pos n → is_free s far b t r ≡ true → enters s far b n t r ≡ true
  enters_when b n t r e free =
      let same : int_eq (due s far t r) (pos n) ≡ true = (Decides-int_eq (due s far t r) (pos n)).1 e in
      subst (λ v. (elim v [ true ↦ is_free s far b t r | false ↦ false ]) ≡ true) (sym same) free

  pub entered : (n : ℕ) (b : List Moment) (x : Moment) → In x (flat_map (effects s far b n) b) → (t : Moment) × (r : List ℕ) × (After t r ≡ x) × Enters n b t r
  entered n b x at =
      let (t, there, here) = In-flat_map (effects s far b n) b x at in
      let (r, kept, same) = In-map (After t) (filter (enters s far b n t) (rules_at s t)) x here in
      let (stands, passes) = In-filter (enters s far b n t) (rules_at s t) r kept in
      let when = entered_when b n t r passes in (
        t,
        r,
        same,
        record {
          believed = Contains-from_In b t there;
          stands = Contains-from_In (rules_at s t) r stands;
          at_n = when.0;
          free = when.1;
        },
      )

  entering : (n : ℕ) (b : List Moment) (t : Moment) (r : List ℕ) → Enters n b t r → In (After t r) (flat_map (effects s far b n) b)
  entering n b t r e =
      flat_map-In (effects s far b n) b t (After t r) (In-from_Contains b t e.believed)
      (map-In (After t) (filter (enters s far b n t) (rules_at s t)) r
      (filter-In (enters s far b n t) (rules_at s t) r (In-from_Contains (rules_at s t) r e.stands) (enters_when b n t r e.at_n e.free)))

  at_most_next : (z : ℤ) (n : ℕ) → z ≤ℤ pos (suc n) → (z ≤ℤ pos n) ⊎ (z ≡ pos (suc n))
  at_most_next z n h = by (int_eq z (pos (suc n))) refl
    where
      by : (e : Bool) → int_eq z (pos (suc n)) ≡ e → (z ≤ℤ pos n) ⊎ (z ≡ pos (suc n))
      by true e = inr ((Decides-int_eq z (pos (suc n))).0 e)
      by false e = inl (let ne : z ≡ pos (suc n) → ⊥ = λ q. let t : int_eq z (pos (suc n)) ≡ true = (Decides-int_eq z (pos (suc n))).1 q in cc in omega (arith, ints))

  module _ (n : ℕ) (b : List Moment) (right : IsRightTo s far n b) where
    abbrev next : List Moment
    next = next_level s far b (suc n)

    abbrev new : List Moment
    new = flat_map (effects s far b (suc n)) b

    from_next : (x : Moment) → Contains next x → Contains b x ⊎ ((t : Moment) × (r : List ℕ) × (After t r ≡ x) × Enters (suc n) b t r)
    from_next x at =
        elim (In-cases b new x (In-from_Contains next x at)) [
          | inl l ↦ inl (Contains-from_In b x l)
          | inr r ↦ inr (entered (suc n) b x r)
        ]

    to_next : (x : Moment) → Contains b x → Contains next x
    to_next x at = Contains-from_In next x (In-left b new x (In-from_Contains b x at))

    next_occurs : (x : Moment) → Contains next x → Occurs s x
    next_occurs x at =
        elim (from_next x at) [
          | inl l ↦ occurs s far n b right x l
          | inr e ↦ subst (Occurs s) (e.2) (occurs s far n b right (e.0) (e.3).believed, (e.3).stands)
        ]

    not_new : (x : Moment) → early s far x <ℤ pos (suc n) → Contains next x → Contains b x
    not_new x below at =
        elim (from_next x at) [
          | inl l ↦ l
          | inr e ↦
              let occurs_t = occurs s far n b right (e.0) (e.3).believed in
              let due_is = timed.due_is (e.0) (e.1) occurs_t (e.3).stands in
              let date = (e.3).at_n in
              let below_it : early s far (After (e.0) (e.1)) <ℤ pos (suc n) = subst (λ z. early s far z <ℤ pos (suc n)) (sym (e.2)) below in
              absurd (impossible (early s far (After (e.0) (e.1))) (due s far (e.0) (e.1)) (suc n) due_is date below_it)
        ]
      where
        impossible : (x y : ℤ) (n : ℕ) → x ≡ y → y ≡ pos n → x <ℤ pos n → ⊥
        impossible x y n e f h = omega (arith, ints)

    agree : Agree s far timed (suc n) b next
    agree = record {
      into = λ x _ _ at. to_next x at;
      back = λ x _ below at. not_new x below at;
      left = occurs s far n b right;
      right = next_occurs;
    }

    soon : (t : Moment) (r : List ℕ) (m : ℕ) → Occurs s t → Contains (rules_at s t) r → due s far t r ≤ℤ pos m → early s far t <ℤ pos m
    soon t r m occurs_t stands h = by (early s far t) (due s far t r) (early s far (After t r)) (later s far timed t r occurs_t stands) (timed.due_is t r occurs_t stands) h
      where
        by : (a d e : ℤ) → a <ℤ e → e ≡ d → d ≤ℤ pos m → a <ℤ pos m
        by a d e l q h = omega (arith, ints)

    wider : (z : ℤ) → z ≤ℤ pos n → z ≤ℤ pos (suc n)
    wider z h = omega (arith, ints)

    into_right : (x : Moment) → Contains next x → Belongs s far (suc n) next x
    into_right (At p) at =
        elim (from_next (At p) at) [
          | inl l ↦ (right (At p)).0 l
          | inr e ↦ let q : After (e.0) (e.1) ≡ At p = e.2 in cc
        ]
    into_right (After t r) at =
        elim (from_next (After t r) at) [
          | inl l ↦
              let f = (right (After t r)).0 l in
              let occurs_t = occurs s far n b right t f.believed in
              let in_time = wider (due s far t r) f.in_time in
              record {
                believed = to_next t f.believed;
                stands = f.stands;
                in_time = in_time;
                free = free_kept s far timed (suc n) b next agree t occurs_t (soon t r (suc n) occurs_t f.stands in_time) r f.free;
              }
          | inr e ↦ new_fires (e.0) (e.1) (e.2) (e.3)
        ]
      where
        at_last : (z : ℤ) → z ≡ pos (suc n) → z ≤ℤ pos (suc n)
        at_last z q = omega (arith, ints)

        fires : (u : Moment) (q : List ℕ) → Enters (suc n) b u q → Fires s far (suc n) next u q
        fires u q e =
            let occurs_u = occurs s far n b right u e.believed in
            let in_time = at_last (due s far u q) e.at_n in
            record {
              believed = to_next u e.believed;
              stands = e.stands;
              in_time = in_time;
              free = free_kept s far timed (suc n) b next agree u occurs_u (soon u q (suc n) occurs_u e.stands in_time) q e.free;
            }

        new_fires : (u : Moment) (q : List ℕ) → After u q ≡ After t r → Enters (suc n) b u q → Fires s far (suc n) next t r
        new_fires u q same e =
            let one : u ≡ t = cc in
            let two : q ≡ r = cc in
            subst (λ v. Fires s far (suc n) next v r) one (subst (λ w. Fires s far (suc n) next u w) two (fires u q e))

    from_right : (x : Moment) → Belongs s far (suc n) next x → Contains next x
    from_right (At p) at = to_next (At p) ((right (At p)).1 at)
    from_right (After t r) f =
        let occurs_t = next_occurs t f.believed in
        let below = soon t r (suc n) occurs_t f.stands f.in_time in
        let there = not_new t below f.believed in
        let free = free_kept s far timed (suc n) next b (turned s far timed agree) t occurs_t below r f.free in
        elim (at_most_next (due s far t r) n f.in_time) [
          | inl early_enough ↦ to_next (After t r) ((right (After t r)).1 (record { believed = there; stands = f.stands; in_time = early_enough; free = free }))
          | inr last ↦ Contains-from_In next (After t r) (In-right b new (After t r) (entering (suc n) b t r (record { believed = there; stands = f.stands; at_n = last; free = free })))
        ]

    right_next : IsRightTo s far (suc n) next
    right_next x = (into_right x, from_right x)

  right_first : IsRightTo s far 0 (roots s)
  right_first (At p) = (λ h. h, λ h. h)
  right_first (After t r) = (λ h. absurd (not_root s t r (In-from_Contains (roots s) (After t r) h)), λ f. absurd (never t f.believed f))
    where
      impossible : (a d : ℤ) → pos 0 ≤ℤ a → pos 1 ≤ℤ d → (a +ℤ d) ≤ℤ pos 0 → ⊥
      impossible a d h g l = omega (arith, ints)

      never : (t : Moment) → Contains (roots s) t → Fires s far 0 (roots s) t r → ⊥
      never (At p) at f = impossible (early s far (At p)) (rule_of s r).lo (timed.not_before_start (At p) at) (timed.delayed (At p) r f.stands) f.in_time
      never (After u q) at f = not_root s u q (In-from_Contains (roots s) (After u q) at)

  -- level n is right up to n
  pub level_right : (n : ℕ) → IsRightTo s far n (level s far n)
  level_right zero = right_first
  level_right (suc n) = right_next n (level s far n) (level_right n)

  pub beliefs_right : IsRight s far (beliefs s far)
  beliefs_right = level_right s.horizon
