-- Arithmetic of bounds.
use Rattle.std.proofs.Common.{◌≡◌, ◌⊎◌, inl, inr, ℤ, pos, negsuc, sym, subst, ◌+ℤ◌, ◌≤ℤ◌, ap, arith, true, false, cond, refl}
use Rattle.std.specs.Prelude.{int_lt}
use Rattle.std.specs.Int.{int_min}
use Rattle.std.proofs.lemmas.Int.{ints, clamps, by_lt_z}
use Rattle.tmm_model.specs.declared.bound.Bound.{Bound}
use Rattle.tmm_model.specs.declared.bound.Bound.TheVariants.{Finite, Free}
use Rattle.tmm_model.specs.Bounds.{IfFinite, lesser, after}
use Rattle.walk_theory.specs.LeastWalks.{AtMost, ClosesNoNegativeCycle}
use Rattle.tmm_model.specs.Types.{through}

pub AtMost-weaker : (x : Bound) (s t : ℤ) → AtMost x s → s ≤ℤ t → AtMost x t
AtMost-weaker (Finite x) s t h le = omega (arith, ints)
AtMost-weaker Free s t h le = absurd h

pub AtMost-lesser_left : (x y : Bound) (s : ℤ) → AtMost x s → AtMost (lesser x y) s
AtMost-lesser_left (Finite x) (Finite y) s h = omega (arith, ints, clamps)
AtMost-lesser_left (Finite x) Free s h = h
AtMost-lesser_left Free y s h = absurd h

pub AtMost-lesser_right : (x y : Bound) (s : ℤ) → AtMost y s → AtMost (lesser x y) s
AtMost-lesser_right (Finite x) (Finite y) s h = omega (arith, ints, clamps)
AtMost-lesser_right (Finite x) Free s h = absurd h
AtMost-lesser_right Free y s h = h

int_min-cases : (x y : ℤ) → (int_min x y ≡ x) ⊎ (int_min x y ≡ y)
int_min-cases x y = elim (int_lt y x) as (λ b. (cond b y x ≡ x) ⊎ (cond b y x ≡ y)) [ true ↦ inr refl | false ↦ inl refl ]

pub lesser-cases : (x y : Bound) → (lesser x y ≡ x) ⊎ (lesser x y ≡ y)
lesser-cases (Finite x) (Finite y) = elim (int_min-cases x y) [ inl h ↦ inl (ap (λ z. Finite z) h) | inr h ↦ inr (ap (λ z. Finite z) h) ]
lesser-cases (Finite x) Free = inl refl
lesser-cases Free y = inr refl

pub AtMost-through : (x : Bound) (w : ℤ) (y : Bound) (s t : ℤ) → AtMost x s → AtMost y t → AtMost (through x w y) (s +ℤ w +ℤ t)
AtMost-through (Finite x) w (Finite y) s t h k = omega (arith, ints)
AtMost-through (Finite x) w Free s t h k = absurd k
AtMost-through Free w y s t h k = absurd h

pub AtMost-after : (w : ℤ) (x : Bound) (s : ℤ) → AtMost x s → AtMost (after w x) (w +ℤ s)
AtMost-after w (Finite x) s h = omega (arith, ints)
AtMost-after w Free s h = absurd h

pub AtMost-lesser_cases : (x y : Bound) (s : ℤ) → AtMost (lesser x y) s → AtMost x s ⊎ AtMost y s
AtMost-lesser_cases x y s h =
    let P : Bound → Type 0 = λ z. AtMost z s in
    elim (lesser-cases x y) [ inl e ↦ inl (subst P e h) | inr e ↦ inr (subst P e h) ]

pub IfFinite-lesser : (x y : Bound) (P : ℤ → Type 0) → IfFinite x P → IfFinite y P → IfFinite (lesser x y) P
IfFinite-lesser x y P h k =
    let Q : Bound → Type 0 = λ z. IfFinite z P in
    elim (lesser-cases x y) [ inl e ↦ subst Q (sym e) h | inr e ↦ subst Q (sym e) k ]

pub AtMost-through_step : (x near : Bound) (d w : ℤ) (y : Bound) (s : ℤ) → ((t : ℤ) → AtMost x t → AtMost near (d +ℤ t)) → AtMost (through x w y) s → AtMost (through near w y) (d +ℤ s)
AtMost-through_step (Finite x) (Finite near) d w (Finite y) s h k =
    let le : near ≤ℤ (d +ℤ x) = h x (omega (arith, ints)) in omega (arith, ints)
AtMost-through_step (Finite x) Free d w (Finite y) s h k = h x (omega (arith, ints))
AtMost-through_step (Finite x) near d w Free s h k = absurd k
AtMost-through_step Free near d w y s h k = absurd k

pub AtMost-past_cycle : (x : Bound) (w : ℤ) (y : Bound) (s : ℤ) → ClosesNoNegativeCycle w x → AtMost (through x w y) s → AtMost y s
AtMost-past_cycle (Finite x) w (Finite y) s f h = omega (arith, ints)
AtMost-past_cycle (Finite x) w Free s f h = absurd h
AtMost-past_cycle Free w y s f h = absurd h

pub Fits-or_not : (w : ℤ) (x : Bound) → ClosesNoNegativeCycle w x ⊎ AtMost (after w x) (negsuc 0)
Fits-or_not w (Finite x) = by_lt_z (w +ℤ x) (pos 0) (λ h. inr (omega (arith, ints))) (λ h. inl h)
Fits-or_not w Free = inl tt

pub Fits-lesser : (w : ℤ) (x y : Bound) → ClosesNoNegativeCycle w x → ClosesNoNegativeCycle w y → ClosesNoNegativeCycle w (lesser x y)
Fits-lesser w x y h k =
    let Q : Bound → Type 0 = λ z. ClosesNoNegativeCycle w z in
    elim (lesser-cases x y) [ inl e ↦ subst Q (sym e) h | inr e ↦ subst Q (sym e) k ]

-- back along a step: the two weights together are not negative, and no way round is
pub Fits-back : (back w : ℤ) (x y : Bound) → pos 0 ≤ℤ (w +ℤ back) → ClosesNoNegativeCycle (pos 0) x → ClosesNoNegativeCycle (pos 0) y → ClosesNoNegativeCycle back (through x w y)
Fits-back back w (Finite x) (Finite y) h f g = omega (arith, ints)
Fits-back back w (Finite x) Free h f g = tt
Fits-back back w Free y h f g = tt
