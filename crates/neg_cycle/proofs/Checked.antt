-- What the checker of cycles has seen of the steps.
use Rattle.std.proofs.Common.{◌≡◌, ◌≢◌, ◌∙◌, ◌↔◌, inl, inr, ℕ, suc, ◌+◌, ◌*◌, ◌-◌, ◌<◌, ◌≤◌, List, [], ◌∷◌, ◌++◌, map, length, get_or, take, drop, IsTrue, Some, None, Bool, true, false, ◌||◌, ap, sym, subst, arith, refl, ℤ, pos, neg_ℤ, ◌+ℤ◌, ◌≤ℤ◌, ◌^◌, w64, to_z, of_z}
use Rattle.std.specs.List.{AllByRecursion, Contains, IsDistinct, list_any}
use Rattle.std.proofs.lemmas.Bool.{false≢true, false_from_ne_true, or_left, or_right}
use Rattle.std.specs.Int.{w128}
use Rattle.std.specs.Int.RustNames.{FitsSigned}
use Rattle.std.proofs.lemmas.Int.{ints, to_z-of_z}
use Rattle.std.proofs.lemmas.List.{take_more, take_all, drop_all, length-drop, map-append}
use Rattle.std.proofs.lemmas.List.Elements.{Contains-append_cases, Contains-append_left, Contains-append_right}
use Rattle.std.proofs.lemmas.Map.Keys.{IsDistinct-cons, IsDistinct-head, IsDistinct-tail}
use Rattle.std.proofs.Math.Seq.{drop-cons}
use Rattle.tmm_model.specs.declared.point.PointName.{PointName}
use Rattle.tmm_model.specs.declared.premise.Premise.{Premise}
use Rattle.tmm_model.specs.declared.walk.WalkStep.{WalkStep}
use Rattle.tmm_model.specs.Cycles.{steps_in, Leads, sum_of, begins}
use Rattle.tmm_model.specs.Points.{same_point}
use Rattle.tmm_model.specs.Standing.{arc_of, steps_of, premise_in}
use Rattle.tmm_model.specs.Walks.{total}
use Rattle.list_theory.specs.WellNamed.{IsWellNamed}
use Rattle.list_theory.proofs.Cycles.{names_own, Contains-flat_map, Contains-flat_map_from, steps_in-push}
use Rattle.list_theory.proofs.Elements.{Contains-from_In, In-from_Contains}
use Rattle.list_theory.proofs.KnownNames.{found, finds}
use Rattle.walk_theory.proofs.Members.{Contains-cons_cases, Contains-cons_first}
use Rattle.walk_theory.proofs.Walks.{total-append}

-- ---- one member, and two lists

pub IsTrue-one : {X : Type 0} (b : Bool) (x y : X) → (IsTrue b ↔ (y ≡ x)) → IsTrue b ↔ Contains (x ∷ []) y
IsTrue-one b x y tells = (
  λ t. subst (Contains (x ∷ [])) (sym (tells.0 t)) (Contains-cons_first x []),
  λ m. tells.1 (elim (Contains-cons_cases x [] y m) [ inl k ↦ absurd (omega (arith, k.1)) | inr is ↦ is ]),
)

-- no part of the first list
pub IsTrue-second : {X : Type 0} (b : Bool) (xs ys : List X) (z : X) → (Contains xs z → ⊥) → (IsTrue b ↔ Contains ys z) → IsTrue b ↔ Contains (xs ++ ys) z
IsTrue-second b xs ys z none tells =
    (λ t. Contains-append_right xs ys z (tells.0 t), λ m. tells.1 (elim (Contains-append_cases xs ys z m) [ inl k ↦ absurd (none k) | inr k ↦ k ]))

pub no : {F : Type 0} → (IsTrue false ↔ F) → F → ⊥
no tells h = false≢true (tells.1 h)

pub refuted : {F : Type 0} → (F → ⊥) → IsTrue false ↔ F
refuted none = (λ t. absurd (false≢true t), λ h. absurd (none h))

-- ---- steps that lead on

drop_first : (steps : List WalkStep) (i : ℕ) (s : WalkStep) → i < length steps → s ≡ get_or steps i s → drop i steps ≡ s ∷ drop (i + 1) steps
drop_first steps i s lt at =
    let next : suc i ≡ i + 1 = omega arith in
    drop-cons steps i s lt ∙ (ap (λ (x : WalkStep). x ∷ drop (suc i) steps) (sym at) ∙ ap (λ (k : ℕ). s ∷ drop k steps) next)

module _ (from to at : PointName) (steps : List WalkStep) (i : ℕ) (so_far : Leads from to steps ↔ Leads at to (drop i steps)) where
  pub Leads-stop : (s : WalkStep) → i < length steps → s ≡ get_or steps i s → s.from ≢ at → Leads from to steps → ⊥
  Leads-stop s lt is ne h = ne (subst (Leads at to) (drop_first steps i s lt is) (so_far.0 h)).0

  pub Leads-more : (s : WalkStep) → i < length steps → s ≡ get_or steps i s → s.from ≡ at → Leads from to steps ↔ Leads s.to to (drop (i + 1) steps)
  Leads-more s lt is same = (
    λ h. (subst (Leads at to) (drop_first steps i s lt is) (so_far.0 h)).1,
    λ h. so_far.1 (subst (Leads at to) (sym (drop_first steps i s lt is)) (same, h)),
  )

  pub Leads-end : length steps ≤ i → Leads from to steps ↔ (at ≡ to)
  Leads-end out = (λ h. subst (Leads at to) (drop_all i steps out) (so_far.0 h), λ h. so_far.1 (subst (Leads at to) (sym (drop_all i steps out)) h))

-- ---- steps that begin apart

-- all that stands from a place on
pub behind : {X : Type 0} (xs : List X) (i : ℕ) → take (length xs - i) (drop i xs) ≡ drop i xs
behind xs i = take_all (length xs - i) (drop i xs) (omega (arith, length-drop i xs))

any-begins : (p : PointName) (steps : List WalkStep) → list_any (λ s. same_point p s.from) steps ≡ false → AllByRecursion (λ q. same_point p q ≡ false) (begins steps)
any-begins p [] none = tt
any-begins p (s ∷ steps) none =
    let P : WalkStep → Bool = λ x. same_point p x.from in (
      false_from_ne_true (same_point p s.from) (λ t. false≢true (sym none ∙ or_left (same_point p s.from) (list_any P steps) t)),
      any-begins p steps
          (false_from_ne_true (list_any P steps) (λ t. false≢true (sym none ∙ or_right (same_point p s.from) (list_any P steps) t))),
    )

any-begins_not : (p : PointName) (steps : List WalkStep) → AllByRecursion (λ q. same_point p q ≡ false) (begins steps) → list_any (λ s. same_point p s.from) steps ≡ false
any-begins_not p [] all = refl
any-begins_not p (s ∷ steps) all = ap (λ (b : Bool). b || list_any (λ x. same_point p x.from) steps) all.0 ∙ any-begins_not p steps all.1

module _ (steps : List WalkStep) (i : ℕ) (so_far : IsDistinct same_point (begins steps) ↔ IsDistinct same_point (begins (drop i steps))) (s : WalkStep) (lt : i < length steps) (at : s ≡ get_or steps i s) where
  first_begins : IsDistinct same_point (begins (drop i steps)) → IsDistinct same_point (s.from ∷ begins (drop (i + 1) steps))
  first_begins d = subst (λ (t : List WalkStep). IsDistinct same_point (begins t)) (drop_first steps i s lt at) d

  pub begins-stop : list_any (λ x. same_point s.from x.from) (drop (i + 1) steps) ≡ true → IsDistinct same_point (begins steps) → ⊥
  begins-stop found d =
      false≢true (sym (any-begins_not s.from (drop (i + 1) steps) (IsDistinct-head same_point s.from (begins (drop (i + 1) steps)) (first_begins (so_far.0 d)))) ∙ found)

  pub begins-more : list_any (λ x. same_point s.from x.from) (drop (i + 1) steps) ≡ false → IsDistinct same_point (begins steps) ↔ IsDistinct same_point (begins (drop (i + 1) steps))
  begins-more none = (
    λ d. IsDistinct-tail same_point s.from (begins (drop (i + 1) steps)) (first_begins (so_far.0 d)),
    λ d. so_far.1 (subst (λ (t : List WalkStep). IsDistinct same_point (begins t)) (sym (drop_first steps i s lt at))
        (IsDistinct-cons same_point s.from (begins (drop (i + 1) steps)) (any-begins s.from (drop (i + 1) steps) none) d)),
  )

IsDistinct-nil : IsDistinct same_point []
unfolding IsDistinct
IsDistinct-nil = tt

pub begins-end : (steps : List WalkStep) (i : ℕ) → length steps ≤ i → (IsDistinct same_point (begins steps) ↔ IsDistinct same_point (begins (drop i steps))) → IsDistinct same_point (begins steps)
begins-end steps i out so_far = so_far.1 (subst (λ (t : List WalkStep). IsDistinct same_point (begins t)) (sym (drop_all i steps out)) IsDistinct-nil)

-- ---- the sum

pub sum_of-more : (steps : List WalkStep) (i : ℕ) (s : WalkStep) → i < length steps → s ≡ get_or steps i s → sum_of (take (i + 1) steps) ≡ sum_of (take i steps) +ℤ s.weight
sum_of-more steps i s lt at =
    ap sum_of (take_more steps i s lt ∙ ap (λ (x : WalkStep). take i steps ++ x ∷ []) (sym at))
    ∙ (ap total (map-append arc_of (take i steps) (s ∷ [])) ∙ (total-append (map arc_of (take i steps)) (arc_of s ∷ []) ∙ omega (arith, ints)))

-- a sum of so many weights fits
pub sum_fits : (i : ℕ) (sum w : ℤ) → i < 2 ^ 64 → neg_ℤ (pos (i * 9223372036854775808)) ≤ℤ sum → sum ≤ℤ pos (i * 9223372036854775808) → FitsSigned w64 w →
    FitsSigned w128 (sum +ℤ w) × (neg_ℤ (pos ((i + 1) * 9223372036854775808)) ≤ℤ (sum +ℤ w)) × ((sum +ℤ w) ≤ℤ pos ((i + 1) * 9223372036854775808))
sum_fits i sum w few low high fits = (omega (arith, ints), omega (arith, ints), omega (arith, ints))

-- the sum as the code has it, from bits and back
pub sum_seen : (sum w from : ℤ) → from ≡ w → FitsSigned w64 w → FitsSigned w128 (sum +ℤ w) → to_z w128 (of_z w128 (sum +ℤ to_z w128 (of_z w128 from))) ≡ sum +ℤ w
sum_seen sum w from is fits fits_sum =
    let wide : FitsSigned w128 w = omega (arith, ints) in
    ap (λ (z : ℤ). to_z w128 (of_z w128 (sum +ℤ to_z w128 (of_z w128 z)))) is
    ∙ (ap (λ (z : ℤ). to_z w128 (of_z w128 (sum +ℤ z))) (to_z-of_z w128 w wide) ∙ to_z-of_z w128 (sum +ℤ w) fits_sum)

-- ---- known constraints

module _ (premises : List Premise) (well_named : IsWellNamed premises) (s : WalkStep) where
  named_by : (q : Premise) → Contains premises q → Contains (steps_of q) s → premise_in premises s.premise ≡ Some q
  named_by q m own = subst (λ (n : List ℕ). premise_in premises n ≡ Some q) (sym (names_own q s own)) (found premises well_named q (In-from_Contains premises q m))

  -- the premise that a constraint names is the one that it is of
  pub IsTrue-found : (b : Bool) (p : Premise) → Some p ≡ premise_in premises s.premise → (IsTrue b ↔ Contains (steps_of p) s) → IsTrue b ↔ Contains (steps_in premises) s
  IsTrue-found b p at tells = (
    λ t. Contains-flat_map steps_of premises p s (Contains-from_In premises p (finds premises s.premise p (sym at)).0) (tells.0 t),
    λ m.
        (let r : (q : Premise) × Contains premises q × Contains (steps_of q) s = Contains-flat_map_from steps_of premises s m in
        let there : premise_in premises s.premise ≡ Some r.0 = named_by r.0 r.1 r.2 in
        let same : r.0 ≡ p = cc in
        tells.1 (subst (λ (q : Premise). Contains (steps_of q) s) same r.2)),
  )

  pub none_found : premise_in premises s.premise ≡ None → Contains (steps_in premises) s → ⊥
  none_found none m =
      let r : (q : Premise) × Contains premises q × Contains (steps_of q) s = Contains-flat_map_from steps_of premises s m in
      let there : premise_in premises s.premise ≡ Some r.0 = named_by r.0 r.1 r.2 in
      cc

-- a constraint of the refused premise, or one of the others
pub IsTrue-refused : (premises : List Premise) (refused : Premise) (s : WalkStep) → Contains (steps_of refused) s → Contains (steps_in (premises ++ refused ∷ [])) s
IsTrue-refused premises refused s m = subst (λ (t : List WalkStep). Contains t s) (sym (steps_in-push premises refused)) (Contains-append_right (steps_in premises) (steps_of refused) s m)

pub IsTrue-others : (b : Bool) (premises : List Premise) (refused : Premise) (s : WalkStep) → (Contains (steps_of refused) s → ⊥) → (IsTrue b ↔ Contains (steps_in premises) s) → IsTrue b ↔ Contains (steps_in (premises ++ refused ∷ [])) s
IsTrue-others b premises refused s none tells = (
  λ t. subst (λ (x : List WalkStep). Contains x s) (sym (steps_in-push premises refused)) (Contains-append_left (steps_in premises) (steps_of refused) s (tells.0 t)),
  λ m. tells.1 (elim (Contains-append_cases (steps_in premises) (steps_of refused) s (subst (λ (x : List WalkStep). Contains x s) (steps_in-push premises refused) m)) [ inl k ↦ k | inr k ↦ absurd (none k) ]),
)
