-- No occurrence stands twice in a level.
use Rattle.std.proofs.Common.{◌≡◌, ℕ, zero, suc, List, sym, ◌∙◌, subst, arith}
use Rattle.std.proofs.lemmas.Int.{ints}
use Rattle.std.specs.Prelude.{ℤ, pos, ◌≤ℤ◌, filter}
use Rattle.std.specs.List.{flat_map, Contains}
use Rattle.tmm_model.specs.Moments.{Moment, After, Distances}
use Rattle.tmm_model.specs.Standing.{Standing}
use Rattle.tmm_model.specs.Beliefs.{roots, rules_at, due, enters, effects, level}
use Rattle.belief_theory.specs.Right.{IsTimed}
use Rattle.list_theory.proofs.Elements.{In, Contains-from_In, In-map}
use Rattle.belief_theory.proofs.LevelRight.{entered, level_right}
use Rattle.list_theory.proofs.Distinct.{Distinct, Distinct-append, Distinct-filter, Distinct-map, Distinct-flat_map}

module _ (s : Standing) (far : Distances) (timed : IsTimed s far) (roots_distinct : Distinct (roots s)) (rules_distinct : (t : Moment) → Distinct (rules_at s t)) where
  effects_distinct : (b : List Moment) (n : ℕ) (t : Moment) → Distinct (effects s far b n t)
  effects_distinct b n t = Distinct-map (After t) (λ q r e. let one : q ≡ r = cc in one) (filter (enters s far b n t) (rules_at s t)) (Distinct-filter (enters s far b n t) (rules_at s t) (rules_distinct t))

  one_trigger : (b : List Moment) (n : ℕ) (t u y : Moment) → In y (effects s far b n t) → In y (effects s far b n u) → t ≡ u
  one_trigger b n t u y h g =
      let (r, _, e) = In-map (After t) (filter (enters s far b n t) (rules_at s t)) y h in
      let (q, _, f) = In-map (After u) (filter (enters s far b n u) (rules_at s u)) y g in
      let same : After t r ≡ After u q = e ∙ sym f in
      cc

  pub level_distinct : (n : ℕ) → Distinct (level s far n)
  level_distinct zero = roots_distinct
  level_distinct (suc n) =
      let b = level s far n in
      Distinct-append b (flat_map (effects s far b (suc n)) b) (level_distinct n)
      (Distinct-flat_map (effects s far b (suc n)) (effects_distinct b (suc n)) (one_trigger b (suc n)) b (level_distinct n))
      (apart n)
    where
      apart : (n : ℕ) (x : Moment) → In x (level s far n) → In x (flat_map (effects s far (level s far n) (suc n)) (level s far n)) → ⊥
      apart n x at new =
          let (t, r, same, e) = entered s far timed (suc n) (level s far n) x new in
          let f = (level_right s far timed n (After t r)).0 (subst (λ z. Contains (level s far n) z) (sym same) (Contains-from_In (level s far n) x at)) in
          never (due s far t r) e.at_n f.in_time
        where
          never : (z : ℤ) → z ≡ pos (suc n) → z ≤ℤ pos n → ⊥
          never z e f = omega (arith, ints)
