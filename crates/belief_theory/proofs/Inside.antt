-- What has entered in the order of dates is believed.
use Rattle.std.proofs.Common.{◌≡◌, ℕ, zero, suc, ◌≤◌, List, arith, inl, inr}
use Rattle.std.proofs.lemmas.Int.{ints}
use Rattle.std.specs.Prelude.{◌↔◌, ℤ, pos, ◌≤ℤ◌, ◌<ℤ◌}
use Rattle.std.specs.List.{Contains}
use Rattle.tmm_model.specs.Moments.{Moment, At, After, Distances, early}
use Rattle.tmm_model.specs.Standing.{Standing}
use Rattle.tmm_model.specs.Beliefs.{due}
use Rattle.belief_theory.specs.Right.{Occurs, Fires, Belongs, IsRightTo, IsTimed}
use Rattle.belief_theory.proofs.OneRight.{Agree, turned, free_kept, later, occurs}
use Rattle.belief_theory.proofs.Settling.{Settling, before_due}

module _ (s : Standing) (far : Distances) (timed : IsTimed s far) (h : ℕ) where
  -- b is right as to what begins before d
  pub record IsRightBelow (d : ℕ) (b : List Moment) : Type 0 where
    pub member_occurs : (x : Moment) → Contains b x → Occurs s x
    pub is : (x : Moment) → Occurs s x → early s far x <ℤ pos d → Contains b x ↔ Belongs s far h b x

  step : (d : ℕ) (b c : List Moment) → IsRightBelow d b → IsRightBelow d c → (n : ℕ) → suc n ≤ d → Agree s far timed n b c → (x : Moment) → Occurs s x → early s far x <ℤ pos (suc n) → Contains b x → Contains c x
  step d b c right_b right_c n up a x occurs_x below at = by x occurs_x below at (below_d (early s far x) below)
    where
      below_d : (z : ℤ) → z <ℤ pos (suc n) → z <ℤ pos d
      below_d z p = omega (arith, ints)

      before : (z w : ℤ) → z <ℤ w → w <ℤ pos (suc n) → z <ℤ pos n
      before z w p q = omega (arith, ints)

      by : (x : Moment) → Occurs s x → early s far x <ℤ pos (suc n) → Contains b x → early s far x <ℤ pos d → Contains c x
      by (At p) o below at in_d = (right_c.is (At p) o in_d).1 ((right_b.is (At p) o in_d).0 at)
      by (After t r) o below at in_d =
          let f = (right_b.is (After t r) o in_d).0 at in
          let early_t = before (early s far t) (early s far (After t r)) (later s far timed t r (o.0) (o.1)) below in
          (right_c.is (After t r) o in_d).1 (record {
            believed = a.into t (o.0) early_t f.believed;
            stands = f.stands;
            in_time = f.in_time;
            free = free_kept s far timed n b c a t (o.0) early_t r f.free;
          })

  -- two sets that are right below d agree there
  pub agree_below : (d : ℕ) (b c : List Moment) → IsRightBelow d b → IsRightBelow d c → (n : ℕ) → n ≤ d → Agree s far timed n b c
  agree_below d b c right_b right_c zero up = record {
    into = λ x o below _. absurd (never (early s far x) (timed.not_before_start x o) below);
    back = λ x o below _. absurd (never (early s far x) (timed.not_before_start x o) below);
    left = right_b.member_occurs;
    right = right_c.member_occurs;
  }
    where
      never : (z : ℤ) → pos 0 ≤ℤ z → z <ℤ pos 0 → ⊥
      never z p q = omega (arith, ints)
  agree_below d b c right_b right_c (suc n) up =
      let a = agree_below d b c right_b right_c n (omega arith) in
      record {
        into = step d b c right_b right_c n up a;
        back = step d c b right_c right_b n up (turned s far timed a);
        left = right_b.member_occurs;
        right = right_c.member_occurs;
      }

  settling_right : (d : ℕ) (b : List Moment) (pends : Moment → List ℕ → Type 0) → Settling s far timed h d b pends → IsRightBelow d b
  settling_right d b pends st = record { member_occurs = st.member_occurs; is = is }
    where
      is : (x : Moment) → Occurs s x → early s far x <ℤ pos d → Contains b x ↔ Belongs s far h b x
      is (At p) o below = (λ at. o, λ at. st.has_roots p at)
      is (After t r) o below = (st.fires t r, found)
        where
          never : (z w : ℤ) → z ≡ w → z <ℤ pos d → pos d ≤ℤ w → ⊥
          never z w e p q = omega (arith, ints)

          found : Fires s far h b t r → Contains b (After t r)
          found f =
              elim (st.settled t r f.believed f.stands f.in_time) [
                | inl pending ↦ absurd (never (early s far (After t r)) (due s far t r) (timed.due_is t r (o.0) (o.1)) below (st.pend_later t r pending))
                | inr done ↦ done.1 f.free
              ]

  right_right : (d : ℕ) (b : List Moment) → IsRightTo s far h b → IsRightBelow d b
  right_right d b right = record { member_occurs = occurs s far h b right; is = λ x _ _. right x }

  -- what has entered so far is in the right set
  pub inside : (d : ℕ) (b c : List Moment) (pends : Moment → List ℕ → Type 0) → Settling s far timed h d b pends → IsRightTo s far h c → (x : Moment) → Contains b x → Contains c x
  inside d b c pends st right (At p) at = (right (At p)).1 (st.member_occurs (At p) at)
  inside d b c pends st right (After t r) at =
      let f = st.fires t r at in
      let occurs_t = st.member_occurs t f.believed in
      let below = before_due s far timed h t r d occurs_t f.stands (st.early_enough t r at) in
      let a = agree_below d b c (settling_right d b pends st) (right_right d c right) d (omega arith) in
      (right (After t r)).1 (record {
        believed = a.into t occurs_t below f.believed;
        stands = f.stands;
        in_time = f.in_time;
        free = free_kept s far timed d b c a t occurs_t below r f.free;
      })
