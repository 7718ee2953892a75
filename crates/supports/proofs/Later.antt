-- What surely begins after an occurrence comes after it in the order.
use Rattle.std.proofs.Common.{◌≡◌, ℕ, true, false, List, [], ◌∙◌, sym, ap, arith}
use Rattle.std.proofs.lemmas.Int.{ints}
use Rattle.std.specs.Prelude.{ℤ, pos, negsuc, ◌+ℤ◌, ◌-ℤ◌, ◌<ℤ◌}
use Rattle.std.specs.List.{Contains}
use Rattle.std.specs.Cmp.{int_cmp_is}
use Rattle.std.specs.Cmp.Lexicographic.{slice_cmp}
use Rattle.std.specs.Ordering.{nat_cmp, ordering_then}
use Rattle.std.specs.declared.cmp.Ordering.TheVariants.{Less}
use Rattle.tmm_model.specs.declared.bound.Bound.{Bound}
use Rattle.tmm_model.specs.declared.bound.Bound.TheVariants.{Finite, Free}
use Rattle.tmm_model.specs.declared.point.PointName.TheVariants.{Start, Begin}
use Rattle.tmm_model.specs.Beliefs.{roots}
use Rattle.tmm_model.specs.Bounds.{bound_at_most, bound_plus, bound_less}
use Rattle.tmm_model.specs.Types.{IsTighter}
use Rattle.tmm_model.specs.Moments.{Moment, At, After, base, rules, low, apart, distance, early, occ_cmp, negated, printed}
use Rattle.tmm_model.specs.Points.{same_point}
use Rattle.belief_theory.specs.Right.{Occurs}
use Rattle.list_theory.specs.WellNamed.{IsSound}
use Rattle.tmm_model.specs.Standing.{Standing, far_in}
use Rattle.tmm_model.specs.Tokens.{is_before}
use Rattle.belief_theory.proofs.Sound.{shortest, sound_rules}
use Rattle.belief_theory.proofs.Timed.{distance_triangle}

root_of : (s : Standing) (x : Moment) → Occurs s x → Contains (roots s) (At (base x))
root_of s (At p) h = h
root_of s (After t r) h = root_of s t h.0

-- the way by k from c to a point is no longer than that from k
sooner : (ck k c : Bound) (a : ℤ) → k ≡ Finite a → bound_at_most ck (negsuc 0) ≡ true → IsTighter c (bound_plus ck k) → negated k <ℤ negated c
sooner Free k c a e h t = cc
sooner (Finite x) Free c a e h t = cc
sooner (Finite x) (Finite k) Free a e h t = absurd t
sooner (Finite x) (Finite k) (Finite c) a e h t = omega (arith, ints)

module _ (s : Standing) (sound : IsSound s) where
  -- no more than so long before what begins with a root the map starts
  to_start : (x : Moment) (k : List ℕ) → Occurs s x → base x ≡ Begin k → (d : ℤ) × (distance s (far_in s.premises) x (At Start) ≡ Finite d)
  to_start x k occurs begins =
      let (d, is, _) = (shortest s sound).from_root (base x) (root_of s x occurs) in
      let apart_base : same_point (base x) Start ≡ false = ap (λ p. same_point p Start) begins in (
        (d +ℤ pos 0) -ℤ low s (rules x),
        ap (λ b. elim b [ true ↦ apart s (rules x) [] | false ↦ bound_less (bound_plus (far_in s.premises (base x) Start) (Finite (pos 0))) (low s (rules x)) ]) apart_base
            ∙ ap (λ f. bound_less (bound_plus f (Finite (pos 0))) (low s (rules x))) is,
      )

  -- **What surely begins after an occurrence comes after it.**
  pub comes_after : (x y : Moment) (k : List ℕ) → Occurs s x → base x ≡ Begin k → is_before (distance s (far_in s.premises)) x y ≡ true → occ_cmp s (far_in s.premises) x y ≡ Less
  comes_after x y k occurs begins before =
      let (d, is) = to_start x k occurs begins in
      let less : early s (far_in s.premises) x <ℤ early s (far_in s.premises) y =
      sooner (distance s (far_in s.premises) y x) (distance s (far_in s.premises) x (At Start)) (distance s (far_in s.premises) y (At Start)) d is before
      (distance_triangle s (far_in s.premises) (shortest s sound) (sound_rules s sound) y x (At Start)) in
      ap (λ r. ordering_then r (slice_cmp nat_cmp (printed x) (printed y))) (sym (int_cmp_is (early s (far_in s.premises) x) (early s (far_in s.premises) y) Less less))
