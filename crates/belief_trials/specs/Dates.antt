-- The laws of plain dates on lines of time that nothing relates, as the tests use them: a spot is
-- its line, its date and its place.
use Rattle.std.specs.Prelude.{◌≡◌, ℕ, ℤ, pos, ◌+ℤ◌, ◌-ℤ◌, ◌≤ℤ◌, Bool, true, false, cond, refl, ◌==◌}
use Rattle.std.specs.declared.cmp.Ordering.{Ordering}
use Rattle.std.specs.declared.cmp.Ordering.TheVariants.{Less, Equal, Greater}
use Rattle.std.specs.Ordering.{on, then_cmp, int_cmp, nat_cmp, ordering_then}
use Rattle.std.specs.Cmp.{IsTotalOrder}
use Rattle.tmm_model.specs.declared.bound.Bound.{Bound}
use Rattle.tmm_model.specs.declared.bound.Bound.TheVariants.{Finite, Free}
use Rattle.tmm_model.specs.Bounds.{bound_plus, IfFinite}
use Rattle.clipping.specs.ByDate.{AreDatesOn}
use Rattle.tmm_model.specs.Types.{IsTighter, IsOrderOn}
use Rattle.std.proofs.Common.{arith, ap, sym, ◌∙◌, eq-eqb}
use Rattle.std.proofs.lemmas.Bool.{eqb-true}
use Rattle.std.proofs.lemmas.Int.{ints}
use Rattle.std.proofs.lemmas.Cmp.{then_total, on_total, int_cmp_total, nat_cmp_total, int_ranked, ranked}

-- a line of time, a date on it, and a place that tells spots of one date apart
abbrev pub Date : Type 0
Date = ℕ × ℤ × ℕ

-- the difference of the dates on one line, and none between two lines
abbrev pub date_far : Date → Date → Bound
date_far p q = cond (p.0 == q.0) (Finite (q.1 -ℤ p.1)) Free

-- by the date, then the line, then the place
abbrev pub date_cmp : Date → Date → Ordering
date_cmp = then_cmp (on (λ p. p.1) int_cmp) (then_cmp (on (λ p. p.0) nat_cmp) (on (λ p. p.2) nat_cmp))

pub itself : (p : Date) → date_far p p ≡ Finite (pos 0)
itself p =
    let same : (p.0 == p.0) ≡ true = eq-eqb p.0 p.0 refl in
    let none : (p.1 -ℤ p.1) ≡ pos 0 = omega (arith, ints) in
    ap (λ b. cond b (Finite (p.1 -ℤ p.1)) Free) same ∙ ap Finite none

pub triangle : (p q r : Date) → IsTighter (date_far p r) (bound_plus (date_far p q) (date_far q r))
triangle p q r = by (p.0 == q.0) refl (q.0 == r.0) refl (p.0 == r.0) refl
  where
    by : (a : Bool) → (p.0 == q.0) ≡ a → (b : Bool) → (q.0 == r.0) ≡ b → (c : Bool) → (p.0 == r.0) ≡ c
        → IsTighter (cond c (Finite (r.1 -ℤ p.1)) Free) (bound_plus (cond a (Finite (q.1 -ℤ p.1)) Free) (cond b (Finite (r.1 -ℤ q.1)) Free))
    by true e true f true g = omega (arith, ints)
    by true e true f false g = let h : (p.0 == r.0) ≡ true = eq-eqb p.0 r.0 (eqb-true p.0 q.0 e ∙ eqb-true q.0 r.0 f) in cc
    by true e false f c g = tt
    by false e b f c g = tt

total : IsTotalOrder date_cmp
total = then_total (on_total (λ p. p.1) int_cmp_total) (then_total (on_total (λ p. p.0) nat_cmp_total) (on_total (λ p. p.2) nat_cmp_total))

strict : (x y : Date) → date_cmp x y ≡ Equal → x ≡ y
strict x y h = by (int_cmp x.1 y.1) refl (nat_cmp x.0 y.0) refl (nat_cmp x.2 y.2) refl h
  where
    by : (r : Ordering) → int_cmp x.1 y.1 ≡ r → (s : Ordering) → nat_cmp x.0 y.0 ≡ s → (t : Ordering) → nat_cmp x.2 y.2 ≡ t → ordering_then r (ordering_then s t) ≡ Equal → x ≡ y
    by Less e s f t g h = cc
    by Greater e s f t g h = cc
    by Equal e Less f t g h = cc
    by Equal e Greater f t g h = cc
    by Equal e Equal f Less g h = cc
    by Equal e Equal f Greater g h = cc
    by Equal e Equal f Equal g h =
        let date : x.1 ≡ y.1 = int_ranked x.1 y.1 Equal (sym e) in
        let line : x.0 ≡ y.0 = ranked x.0 y.0 Equal (sym f) in
        let place : x.2 ≡ y.2 = ranked x.2 y.2 Equal (sym g) in
        λ i. (line i, date i, place i)

pub ordered : IsOrderOn {P = Date} (λ p. Unit {0}) date_cmp
ordered = record {
  antisymm = λ x y _ _. total.antisymm x y;
  trans = λ x y z _ _ _. total.trans x y z;
  strict = λ x y _ _. strict x y;
}

pub dated : AreDatesOn {P = Date} (λ p. Unit {0}) date_far (λ p. p.1)
dated = record { met = λ p q _ _. by p q (p.0 == q.0) }
  where
    by : (p q : Date) (b : Bool) → IfFinite (cond b (Finite (q.1 -ℤ p.1)) Free) (λ w. q.1 ≤ℤ (p.1 +ℤ w))
    by p q true = omega (arith, ints)
    by p q false = tt
