-- The distance of two points is the tightest bound that all dates keep.
use Rattle.std.proofs.Common.{◌≡◌, inl, inr, Bool, List, ◌∷◌, ℤ, pos, neg_ℤ, ◌-ℤ◌, ◌≤ℤ◌, ◌<ℤ◌, subst, arith}
use Rattle.std.specs.Bool.{Decides}
use Rattle.std.proofs.lemmas.Int.{ints}
use Rattle.tmm_model.specs.declared.bound.Bound.{Bound}
use Rattle.tmm_model.specs.declared.bound.Bound.TheVariants.{Finite, Free}
use Rattle.walk_theory.specs.LeastWalks.{ClosesNoNegativeCycle, HasWalk, IsFar}
use Rattle.tmm_model.specs.Walks.{Arc, IsDates, HasDates}
use Rattle.walk_theory.proofs.Dates.{Solved, solve, no_cycle_from_dates, difference-le_total, HasDates-closed, met_at}
use Rattle.walk_theory.proofs.Members.{Adds-cons}
use Rattle.walk_theory.proofs.Paths.{IsFar-same}
use Rattle.walk_theory.proofs.Removal.{IsDates-fewer}

module _ {P : Type 0} (start : P) where
  -- all dates keep the distance
  pub difference-le_far : (arcs : List (Arc P)) (a b : P) (x : ℤ) → IsFar arcs a b (Finite x) → (date : P → ℤ) → IsDates start arcs date → (date b -ℤ date a) ≤ℤ x
  difference-le_far arcs a b x far date dates =
      let r : HasWalk arcs a b x = far.reached in
      omega (arith, ints, r.2, difference-le_total start arcs date dates a b r.0 r.1)

module _ {P : Type 0} (same : P → P → Bool) (decides : (x y : P) → Decides (same x y) (x ≡ y)) (start : P) where
  pub solved : (arcs : List (Arc P)) → HasDates start arcs → Solved start arcs
  solved arcs dates = elim (solve same decides start arcs) [ inl cycle ↦ absurd (no_cycle_from_dates start arcs dates cycle) | inr s ↦ s ]

  -- a constraint back from b to a that is no tighter than the distance leaves dates
  dates_with : (arcs : List (Arc P)) → HasDates start arcs → (a b : P) (w : ℤ) (x : Bound) → IsFar arcs a b x → ClosesNoNegativeCycle w x → (date : P → ℤ) × IsDates start arcs date × ((date a -ℤ date b) ≤ℤ w)
  dates_with arcs dates a b w x far fits =
      let s : Solved start arcs = solved arcs dates in
      let e : Arc P = record { from = b; to = a; weight = w } in
      let more : HasDates start (e ∷ arcs) =
      HasDates-closed start arcs (e ∷ arcs) e (Adds-cons arcs e) (λ _. Unit {0}) (λ _ _. (tt, tt)) s.table (λ p q _ _. s.is_far p q)
      (subst (λ (y : Bound). ClosesNoNegativeCycle w y) (IsFar-same arcs a b x (s.table a b) far (s.is_far a b)) fits) s.dates.0 s.dates.1 in
      (more.0, IsDates-fewer start (e ∷ arcs) arcs (Adds-cons arcs e).kept more.0 more.1, met_at start (e ∷ arcs) more.0 e more.1 (Adds-cons arcs e).added)

  -- **Some dates reach the distance.**
  pub dates_reach : (arcs : List (Arc P)) → HasDates start arcs → (a b : P) (x : ℤ) → IsFar arcs a b (Finite x) → (date : P → ℤ) × IsDates start arcs date × ((date b -ℤ date a) ≡ x)
  dates_reach arcs dates a b x far =
      let d : (date : P → ℤ) × IsDates start arcs date × ((date a -ℤ date b) ≤ℤ neg_ℤ x) = dates_with arcs dates a b (neg_ℤ x) (Finite x) far (omega (arith, ints)) in
      (d.0, d.1, omega (arith, ints, d.2, difference-le_far start arcs a b x far d.0 d.1))

  -- **Where there is no walk, some dates pass any number.**
  pub dates_pass : (arcs : List (Arc P)) → HasDates start arcs → (a b : P) → IsFar arcs a b Free → (m : ℤ) → (date : P → ℤ) × IsDates start arcs date × (m <ℤ (date b -ℤ date a))
  dates_pass arcs dates a b far m =
      let d : (date : P → ℤ) × IsDates start arcs date × ((date a -ℤ date b) ≤ℤ (neg_ℤ m -ℤ pos 1)) = dates_with arcs dates a b (neg_ℤ m -ℤ pos 1) Free far tt in
      (d.0, d.1, omega (arith, ints, d.2))
