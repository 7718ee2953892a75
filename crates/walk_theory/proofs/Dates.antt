-- The law of dates: they exist exactly where no closed walk has a negative sum.
use Rattle.std.proofs.Common.{◌≡◌, ◌⊎◌, inl, inr, Bool, List, [], ◌∷◌, ℤ, pos, negsuc, ◌+ℤ◌, ◌-ℤ◌, ◌≤ℤ◌, sym, subst, arith, refl, cond, ◌↔◌}
use Rattle.std.specs.Bool.{Decides}
use Rattle.std.specs.List.{Contains}
use Rattle.std.specs.Int.{int_min}
use Rattle.std.proofs.lemmas.List.Elements.{All-contains}
use Rattle.std.proofs.lemmas.Int.{ints, clamps}
use Rattle.tmm_model.specs.declared.bound.Bound.{Bound}
use Rattle.tmm_model.specs.declared.bound.Bound.TheVariants.{Finite, Free}
use Rattle.walk_theory.specs.LeastWalks.{AtMost, ClosesNoNegativeCycle, IsWalk, HasWalk, IsFar, Adds, closed, HasNegativeCycle}
use Rattle.tmm_model.specs.Bounds.{after}
use Rattle.tmm_model.specs.Walks.{Arc, total, IsDates, HasDates}
use Rattle.walk_theory.proofs.Bounds.{AtMost-after, Fits-or_not}
use Rattle.walk_theory.proofs.Closing.{IsFar-last, IsFar-closed}
use Rattle.walk_theory.proofs.Members.{All-from_contains, Adds-cons}
use Rattle.walk_theory.proofs.Points.{tells}
use Rattle.walk_theory.proofs.Walks.{IsWalk-kept}

module _ {P : Type 0} (start : P) where
  -- a constraint of the list is met by dates
  pub met_at : (arcs : List (Arc P)) (date : P → ℤ) (e : Arc P) → IsDates start arcs date → Contains arcs e → (date e.to -ℤ date e.from) ≤ℤ e.weight
  met_at arcs date e dates m = All-contains (λ x. (date x.to -ℤ date x.from) ≤ℤ x.weight) arcs e dates.met m

  -- all dates keep the distance of two points below each walk's sum
  pub difference-le_total : (arcs : List (Arc P)) (date : P → ℤ) → IsDates start arcs date → (a b : P) (walk : List (Arc P)) → IsWalk arcs a b walk → (date b -ℤ date a) ≤ℤ total walk
  difference-le_total arcs date dates a b [] h =
      let F : P → Type 0 = λ c. (date c -ℤ date a) ≤ℤ pos 0 in subst F h (omega (arith, ints))
  difference-le_total arcs date dates a b (e ∷ walk) h =
      let F : P → Type 0 = λ c. (date b -ℤ date c) ≤ℤ (e.weight +ℤ total walk) in
      subst F h.1 (omega (arith, ints, met_at arcs date e dates h.0, difference-le_total arcs date dates e.to b walk h.2))

  pub no_cycle_from_dates : (arcs : List (Arc P)) → HasDates start arcs → HasNegativeCycle arcs → ⊥
  no_cycle_from_dates arcs (date, dates) (a, walk, is_walk, negative) =
      omega (arith, ints, negative, difference-le_total arcs date dates a a walk is_walk)

  pub HasDates-nil : HasDates start []
  HasDates-nil = (λ _. pos 0, record { at_start = refl; met = λ k d lt. absurd (omega (arith, lt)) })

-- ---- the dates after one more constraint

earlier : ℤ → Bound → ℤ
earlier x (Finite y) = int_min x y
earlier x Free = x

earlier-le : (x : ℤ) (y : Bound) → earlier x y ≤ℤ x
unfolding earlier
earlier-le x (Finite y) = omega (arith, ints, clamps)
earlier-le x Free = omega (arith, ints)

earlier-le_bound : (x : ℤ) (y : Bound) (s : ℤ) → AtMost y s → earlier x y ≤ℤ s
unfolding earlier
earlier-le_bound x (Finite y) s h = omega (arith, ints, clamps)
earlier-le_bound x Free s h = absurd h

-- what holds above both holds above the earlier
le-earlier : (s x : ℤ) (y : Bound) → s ≤ℤ x → ((t : ℤ) → AtMost y t → s ≤ℤ t) → s ≤ℤ earlier x y
unfolding earlier
le-earlier s x (Finite y) h k = let k' : s ≤ℤ y = k y (omega (arith, ints)) in omega (arith, ints, clamps)
le-earlier s x Free h k = h

AtMost-after_inverse : (w : ℤ) (x : Bound) (t : ℤ) → AtMost (after w x) t → AtMost x (t -ℤ w)
AtMost-after_inverse w (Finite x) t h = omega (arith, ints)
AtMost-after_inverse w Free t h = absurd h

module _ {P : Type 0} (start : P) (old new : List (Arc P)) (e : Arc P) (adds : Adds old e new) (In : P → Type 0)
    (ends : (x : Arc P) → Contains new x → In x.from × In x.to)
    (table : P → P → Bound) (is_far : (a b : P) → In a → In b → IsFar old a b (table a b))
    (fits : ClosesNoNegativeCycle e.weight (table e.to e.from)) (date : P → ℤ) (dates : IsDates start old date) where
  moved : P → ℤ
  moved q = earlier (date q) (after (date e.from +ℤ e.weight) (table e.to q))

  moved-old : (x : Arc P) → Contains old x → moved x.to ≤ℤ (moved x.from +ℤ x.weight)
  unfolding moved
  moved-old x m =
      let here : In x.from × In x.to = ends x (adds.kept x m) in
      let e_here : In e.from × In e.to = ends e adds.added in
      let base : ℤ = date e.from +ℤ e.weight in
      let goal_ : (moved x.to -ℤ x.weight) ≤ℤ moved x.from =
      le-earlier (moved x.to -ℤ x.weight) (date x.from) (after base (table e.to x.from))
      (omega (arith, ints, met_at start old date x dates m, earlier-le (date x.to) (after base (table e.to x.to))))
      (λ t h.
      (let k : AtMost (table e.to x.to) ((t -ℤ base) +ℤ x.weight) =
      IsFar-last old e.to x (table e.to x.from) (table e.to x.to) (t -ℤ base) m
      (is_far e.to x.from e_here.1 here.0) (is_far e.to x.to e_here.1 here.1) (AtMost-after_inverse base (table e.to x.from) t h) in
      omega (arith, ints, earlier-le_bound (date x.to) (after base (table e.to x.to)) (base +ℤ ((t -ℤ base) +ℤ x.weight)) (AtMost-after base (table e.to x.to) ((t -ℤ base) +ℤ x.weight) k)))) in
      omega (arith, ints)

  fits_above : (t : ℤ) (x : Bound) → ClosesNoNegativeCycle e.weight x → AtMost (after (date e.from +ℤ e.weight) x) t → date e.from ≤ℤ t
  fits_above t (Finite x) f h = omega (arith, ints)
  fits_above t Free f h = absurd h

  moved-new : moved e.to ≤ℤ (moved e.from +ℤ e.weight)
  unfolding moved
  moved-new =
      let e_here : In e.from × In e.to = ends e adds.added in
      let base : ℤ = date e.from +ℤ e.weight in
      let self : AtMost (table e.to e.to) (pos 0) = (is_far e.to e.to e_here.1 e_here.1).least [] refl in
      let low : moved e.to ≤ℤ (base +ℤ pos 0) = earlier-le_bound (date e.to) (after base (table e.to e.to)) (base +ℤ pos 0) (AtMost-after base (table e.to e.to) (pos 0) self) in
      let high : date e.from ≤ℤ moved e.from = le-earlier (date e.from) (date e.from) (after base (table e.to e.from)) (omega (arith, ints)) (λ t h. fits_above t (table e.to e.from) fits h) in
      omega (arith, ints)

  moved-met : (x : Arc P) → Contains new x → moved x.to ≤ℤ (moved x.from +ℤ x.weight)
  moved-met x m =
      elim (adds.only x m) [
        | inl k ↦ moved-old x k
        | inr k ↦ (let F : Arc P → Type 0 = λ y. moved y.to ≤ℤ (moved y.from +ℤ y.weight) in subst F (sym k) moved-new)
      ]

  pub HasDates-closed : HasDates start new
  HasDates-closed = (
    λ q. moved q -ℤ moved start,
    record {
      at_start = omega (arith, ints);
      met = All-from_contains (λ x. ((moved x.to -ℤ moved start) -ℤ (moved x.from -ℤ moved start)) ≤ℤ x.weight) new (λ x m. omega (arith, ints, moved-met x m));
    },
  )

-- ---- a constraint that does not fit closes a walk of negative sum

module _ {P : Type 0} where
  pub cycle_through : (old new : List (Arc P)) (e : Arc P) (x : Bound) → Adds old e new → IsFar old e.to e.from x → AtMost (after e.weight x) (negsuc 0) → HasNegativeCycle new
  cycle_through old new e (Finite x) adds far h =
      let r : HasWalk old e.to e.from x = far.reached in
      (e.from, e ∷ r.0, (adds.added, refl, IsWalk-kept old new adds.kept e.to e.from r.0 r.1), omega (arith, ints, r.2))
  cycle_through old new e Free adds far h = absurd h

-- the distances of a list that has dates
pub record Solved {P : Type 0} (start : P) (arcs : List (Arc P)) : Type 0 where
  pub dates : HasDates start arcs
  pub table : P → P → Bound
  pub is_far : (a b : P) → IsFar arcs a b (table a b)

-- ---- every list has dates or a negative cycle

module _ {P : Type 0} where
  pub IsFar-nil_same : (a : P) → IsFar [] a a (Finite (pos 0))
  IsFar-nil_same a = record { reached = ([], refl, refl); least = nil_least a }
    where
      nil_least : (b : P) (walk : List (Arc P)) → IsWalk [] a b walk → AtMost (Finite (pos 0)) (total walk)
      nil_least b [] h = omega (arith, ints)
      nil_least b (e ∷ walk) h = absurd (omega (arith, h.0.1))

  pub IsFar-nil_other : (a b : P) → (a ≡ b → ⊥) → IsFar [] a b Free
  IsFar-nil_other a b ne = record { reached = tt; least = nil_none }
    where
      nil_none : (walk : List (Arc P)) → IsWalk [] a b walk → AtMost Free (total walk)
      nil_none [] h = ne h
      nil_none (e ∷ walk) h = absurd (omega (arith, h.0.1))

module _ {P : Type 0} (same : P → P → Bool) where
  empty_table : P → P → Bound
  empty_table a b = cond (same a b) (Finite (pos 0)) Free

module _ {P : Type 0} (same : P → P → Bool) (decides : (x y : P) → Decides (same x y) (x ≡ y)) where
  IsFar-nil : (a b : P) → IsFar [] a b (empty_table same a b)
  unfolding empty_table
  IsFar-nil a b =
      elim (tells same decides a b) [
        | inl h ↦ rw h.0 (subst (λ c. IsFar [] a c (Finite (pos 0))) h.1 (IsFar-nil_same a))
        | inr h ↦ rw h.0 (IsFar-nil_other a b h.1)
      ]

module _ {P : Type 0} (same : P → P → Bool) (decides : (x y : P) → Decides (same x y) (x ≡ y)) (start : P) where
  pub solve : (arcs : List (Arc P)) → HasNegativeCycle arcs ⊎ Solved start arcs
  solve [] = inr (record { dates = HasDates-nil start; table = empty_table same; is_far = IsFar-nil same decides })
  solve (e ∷ arcs) =
      elim (solve arcs) [
        | inl (a, walk, is_walk, negative) ↦ inl (a, walk, IsWalk-kept arcs (e ∷ arcs) (Adds-cons arcs e).kept a a walk is_walk, negative)
        | inr s ↦ elim (Fits-or_not e.weight (s.table e.to e.from)) [
          | inl fits ↦ inr (record {
            dates = HasDates-closed start arcs (e ∷ arcs) e (Adds-cons arcs e) (λ _. Unit {0}) (λ _ _. (tt, tt)) s.table (λ a b _ _. s.is_far a b) fits s.dates.0 s.dates.1;
            table = closed s.table e;
            is_far = λ a b. IsFar-closed arcs (e ∷ arcs) e (Adds-cons arcs e) (λ _. Unit {0}) (λ _ _. (tt, tt)) s.table (λ a b _ _. s.is_far a b) fits a b tt tt;
          })
          | inr low ↦ inl (cycle_through arcs (e ∷ arcs) e (s.table e.to e.from) (Adds-cons arcs e) (s.is_far e.to e.from) low)
        ]
      ]

  -- **The law.** Dates exist, or some closed walk has a negative sum.
  pub dates_or_cycle : (arcs : List (Arc P)) → HasDates start arcs ⊎ HasNegativeCycle arcs
  dates_or_cycle arcs = elim (solve arcs) [ inl cycle ↦ inr cycle | inr s ↦ inl s.dates ]

  -- dates exist exactly where no closed walk has a negative sum
  pub dates-iff_no_cycle : (arcs : List (Arc P)) → HasDates start arcs ↔ (HasNegativeCycle arcs → ⊥)
  dates-iff_no_cycle arcs =
      (no_cycle_from_dates start arcs, λ none. elim (dates_or_cycle arcs) [ inl dates ↦ dates | inr cycle ↦ absurd (none cycle) ])
