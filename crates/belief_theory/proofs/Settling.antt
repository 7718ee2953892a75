-- Decisions that are made in the order of their dates leave a right set.
use Rattle.std.proofs.Common.{◌≡◌, ℕ, ◌≤◌, true, false, List, sym, ◌∙◌, ap, subst, arith, inl, inr}
use Rattle.std.proofs.lemmas.Int.{ints}
use Rattle.std.specs.Prelude.{◌⊎◌, ℤ, pos, ◌≤ℤ◌, ◌<ℤ◌, IsTrue}
use Rattle.std.specs.List.{Contains}
use Rattle.tmm_model.specs.declared.point.PointName.{PointName}
use Rattle.tmm_model.specs.Moments.{Moment, At, After, Distances, early}
use Rattle.tmm_model.specs.Standing.{Standing}
use Rattle.tmm_model.specs.Beliefs.{roots, rules_at, due, is_free}
use Rattle.belief_theory.specs.Right.{Occurs, Fires, IsRightTo, IsTimed}
use Rattle.belief_theory.proofs.OneRight.{Agree, turned, free_kept, later}

module _ (s : Standing) (far : Distances) (timed : IsTimed s far) (h : ℕ) where
  -- the occurrences b, of which the decisions due up to d are made, and those that pend are due at
  -- d or later
  pub record Settling (d : ℕ) (b : List Moment) (pends : Moment → List ℕ → Type 0) : Type 0 where
    pub has_roots : (p : PointName) → Contains (roots s) (At p) → Contains b (At p)
    pub member_occurs : (x : Moment) → Contains b x → Occurs s x
    pub fires : (t : Moment) (r : List ℕ) → Contains b (After t r) → Fires s far h b t r
    pub early_enough : (t : Moment) (r : List ℕ) → Contains b (After t r) → due s far t r ≤ℤ pos d
    pub settled : (t : Moment) (r : List ℕ) → Contains b t → Contains (rules_at s t) r → due s far t r ≤ℤ pos h
        → pends t r ⊎ ((due s far t r ≤ℤ pos d) × (IsTrue (is_free s far b t r) → Contains b (After t r)))
    pub pend_later : (t : Moment) (r : List ℕ) → pends t r → pos d ≤ℤ due s far t r

  pub before_due : (t : Moment) (r : List ℕ) (e : ℕ) → Occurs s t → Contains (rules_at s t) r → due s far t r ≤ℤ pos e → early s far t <ℤ pos e
  before_due t r e occurs_t stands h = by (early s far t) (early s far (After t r)) (due s far t r) (later s far timed t r occurs_t stands) (timed.due_is t r occurs_t stands) h
    where
      by : (a f d : ℤ) → a <ℤ f → f ≡ d → d ≤ℤ pos e → a <ℤ pos e
      by a f d l q h = omega (arith, ints)

  -- with nothing left to decide, the set is right
  pub right_at_end : (d : ℕ) (b : List Moment) → Settling d b (λ _ _. ⊥) → IsRightTo s far h b
  right_at_end d b st (At p) = (λ at. st.member_occurs (At p) at, st.has_roots p)
  right_at_end d b st (After t r) = (
    st.fires t r,
    (λ f. elim (st.settled t r f.believed f.stands f.in_time) [ inl never ↦ absurd never | inr found ↦ found.1 f.free ]),
  )

  module _ (d e : ℕ) (b c : List Moment) (pends still : Moment → List ℕ → Type 0) (st : Settling d b pends) (up : d ≤ e)
      (t : Moment) (r : List ℕ) (believed : Contains b t) (stands : Contains (rules_at s t) r) (date : due s far t r ≡ pos e)
      (rest : (u : Moment) (q : List ℕ) → pends u q → still u q ⊎ ((u ≡ t) × (q ≡ r)))
      (rest_later : (u : Moment) (q : List ℕ) → still u q → pos e ≤ℤ due s far u q) where
    abbrev x : Moment
    x = After t r

    later_still : (z : ℤ) → z ≤ℤ pos d → z ≤ℤ pos e
    later_still z h = omega (arith, ints)

    at_date : (z : ℤ) → z ≡ pos e → z ≤ℤ pos e
    at_date z h = omega (arith, ints)

    -- the decision is that r doesn't fire
    pub skip : (is_free s far b t r ≡ false) → Settling e b still
    skip blocked = record {
      has_roots = st.has_roots;
      member_occurs = st.member_occurs;
      fires = st.fires;
      early_enough = λ u q at. later_still (due s far u q) (st.early_enough u q at);
      settled = λ u q at on_kind in_time. elim (st.settled u q at on_kind in_time) [
        | inr done ↦ inr (later_still (due s far u q) (done.0), done.1)
        | inl pending ↦ elim (rest u q pending) [
          | inl l ↦ inl l
          | inr same ↦ inr (made u q (same.0) (same.1))
        ]
      ];
      pend_later = rest_later;
    }
      where
        made : (u : Moment) (q : List ℕ) → u ≡ t → q ≡ r → (due s far u q ≤ℤ pos e) × (IsTrue (is_free s far b u q) → Contains b (After u q))
        made u q one two =
            let same_due : due s far u q ≡ pos e = (λ i. due s far (one i) (two i)) ∙ date in
            let same_free : is_free s far b u q ≡ false = (λ i. is_free s far b (one i) (two i)) ∙ blocked in
            (at_date (due s far u q) same_due, λ free. cc)

    module _ (free : is_free s far b t r ≡ true) (in_time : pos e ≤ℤ pos h)
        (into : (y : Moment) → Contains b y → Contains c y) (x_in : Contains c x) (from : (y : Moment) → Contains c y → Contains b y ⊎ (y ≡ x))
        (new_pend : (q : List ℕ) → Contains (rules_at s x) q → due s far x q ≤ℤ pos h → still x q) where
      occurs_t : Occurs s t
      occurs_t = st.member_occurs t believed

      c_occurs : (y : Moment) → Contains c y → Occurs s y
      c_occurs y at = elim (from y at) [ inl l ↦ st.member_occurs y l | inr same ↦ subst (Occurs s) (sym same) (occurs_t, stands) ]

      early_x : early s far x ≡ pos e
      early_x = timed.due_is t r occurs_t stands ∙ date

      agree : Agree s far timed e b c
      agree = record {
        into = λ y _ _ at. into y at;
        back = λ y _ below at. elim (from y at) [ inl l ↦ l | inr same ↦ absurd (not_below y same below) ];
        left = st.member_occurs;
        right = c_occurs;
      }
        where
          not_below : (y : Moment) → y ≡ x → early s far y <ℤ pos e → ⊥
          not_below y same below = let date_y : early s far y ≡ pos e = ap (early s far) same ∙ early_x in by (early s far y) date_y below
            where
              by : (z : ℤ) → z ≡ pos e → z <ℤ pos e → ⊥
              by z p q = omega (arith, ints)

      -- the decision is that r fires, and its effect enters
      pub enter : Settling e c still
      enter = record {
        has_roots = λ p at. into (At p) (st.has_roots p at);
        member_occurs = c_occurs;
        fires = fires;
        early_enough = early_enough;
        settled = settled;
        pend_later = rest_later;
      }
        where
          kept : (u : Moment) (q : List ℕ) → Contains b u → Contains (rules_at s u) q → due s far u q ≤ℤ pos e → is_free s far b u q ≡ true → is_free s far c u q ≡ true
          kept u q at on_kind by_e = free_kept s far timed e b c agree u (st.member_occurs u at) (before_due u q e (st.member_occurs u at) on_kind by_e) q

          back : (u : Moment) (q : List ℕ) → Contains b u → Contains (rules_at s u) q → due s far u q ≤ℤ pos e → is_free s far c u q ≡ true → is_free s far b u q ≡ true
          back u q at on_kind by_e = free_kept s far timed e c b (turned s far timed agree) u (st.member_occurs u at) (before_due u q e (st.member_occurs u at) on_kind by_e) q

          in_time_t : due s far t r ≤ℤ pos h
          in_time_t = subst (λ z. z ≤ℤ pos h) (sym date) in_time

          new_fires : Fires s far h c t r
          new_fires = record { believed = into t believed; stands = stands; in_time = in_time_t; free = kept t r believed stands (at_date (due s far t r) date) free }

          fires : (u : Moment) (q : List ℕ) → Contains c (After u q) → Fires s far h c u q
          fires u q at =
              elim (from (After u q) at) [
                | inl l ↦
                    let f = st.fires u q l in
                    record { believed = into u f.believed; stands = f.stands; in_time = f.in_time; free = kept u q f.believed f.stands (later_still (due s far u q) (st.early_enough u q l)) f.free }
                | inr same ↦ as_new u q same
              ]
            where
              as_new : (u : Moment) (q : List ℕ) → After u q ≡ x → Fires s far h c u q
              as_new u q same =
                  let one : t ≡ u = cc in
                  let two : r ≡ q = cc in
                  subst (λ v. Fires s far h c v q) one (subst (λ w. Fires s far h c t w) two new_fires)

          early_enough : (u : Moment) (q : List ℕ) → Contains c (After u q) → due s far u q ≤ℤ pos e
          early_enough u q at =
              elim (from (After u q) at) [
                | inl l ↦ later_still (due s far u q) (st.early_enough u q l)
                | inr same ↦ as_new u q same
              ]
            where
              as_new : (u : Moment) (q : List ℕ) → After u q ≡ x → due s far u q ≤ℤ pos e
              as_new u q same =
                  let one : u ≡ t = cc in
                  let two : q ≡ r = cc in
                  at_date (due s far u q) ((λ i. due s far (one i) (two i)) ∙ date)

          settled : (u : Moment) (q : List ℕ) → Contains c u → Contains (rules_at s u) q → due s far u q ≤ℤ pos h → still u q ⊎ ((due s far u q ≤ℤ pos e) × (IsTrue (is_free s far c u q) → Contains c (After u q)))
          settled u q at on_kind by_h = elim (from u at) [ inl l ↦ old u q l on_kind by_h | inr same ↦ inl (new u q same on_kind by_h) ]
            where
              new : (u : Moment) (q : List ℕ) → u ≡ x → Contains (rules_at s u) q → due s far u q ≤ℤ pos h → still u q
              new u q same on_kind by_h = subst (λ v. still v q) (sym same) (new_pend q (subst (λ v. Contains (rules_at s v) q) same on_kind) (subst (λ v. due s far v q ≤ℤ pos h) same by_h))

              made : (u : Moment) (q : List ℕ) → u ≡ t → q ≡ r → (due s far u q ≤ℤ pos e) × (IsTrue (is_free s far c u q) → Contains c (After u q))
              made u q one two = (
                at_date (due s far u q) ((λ i. due s far (one i) (two i)) ∙ date),
                λ _. subst (λ v. Contains c (After v q)) (sym one) (subst (λ w. Contains c (After t w)) (sym two) x_in),
              )

              old : (u : Moment) (q : List ℕ) → Contains b u → Contains (rules_at s u) q → due s far u q ≤ℤ pos h → still u q ⊎ ((due s far u q ≤ℤ pos e) × (IsTrue (is_free s far c u q) → Contains c (After u q)))
              old u q l on_kind by_h =
                  elim (st.settled u q l on_kind by_h) [
                    | inr done ↦ inr (later_still (due s far u q) (done.0), λ f. into (After u q) (done.1 (back u q l on_kind (later_still (due s far u q) (done.0)) f)))
                    | inl pending ↦ elim (rest u q pending) [ inl still_pends ↦ inl still_pends | inr same ↦ inr (made u q (same.0) (same.1)) ]
                  ]
