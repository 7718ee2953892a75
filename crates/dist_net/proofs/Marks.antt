-- Numbers of points, as a list and as marks.
use Rattle.std.proofs.Common.{◌≡◌, ◌≢◌, ◌∙◌, ◌⊎◌, inl, inr, ℕ, ◌+◌, ◌<◌, ◌≤◌, ◌++◌, replicate, Bool, true, false, eqb, List, [], ◌∷◌, length, length-set, get_or, set, ap, sym, subst, arith, refl}
use Rattle.std.specs.List.{Contains, IsDistinct, list_any}
use Rattle.std.proofs.lemmas.Bool.{cases_eq, cases_lt, false≢true, eqb-true}
use Rattle.std.proofs.lemmas.Cmp.{nat_eq_equiv}
use Rattle.std.proofs.lemmas.Map.Keys.{IsDistinct-push}
use Rattle.std.proofs.lemmas.Map.Steps.{length-le_from_distinct_below}
use Rattle.std.proofs.lemmas.Map.Views.{Contains-from_any}
use Rattle.std.proofs.lemmas.List.{get_or-set_other, get_or-set_same, get_or_default, get_or_past, get_or-replicate, length-append, length-replicate}
use Rattle.std.proofs.lemmas.List.Elements.{All-push, Contains-push, Contains-push_cases, Contains-append_left}
use Rattle.dist_net.specs.Changes.{ArePoints, AreMarks, AreUnmarked}

pub ArePoints-none : ArePoints []
unfolding IsDistinct
ArePoints-none = record { below = λ k d lt. absurd (omega (arith, lt)); distinct = tt }

-- there is room for a point that is not listed
module _ (points : List ℕ) (p : ℕ) (is : ArePoints points) (in_p : p < 256) (absent : Contains points p → ⊥) where
  pub ArePoints-push : ArePoints (points ++ p ∷ [])
  ArePoints-push = record { below = All-push (λ q. q < 256) points p is.below in_p; distinct = IsDistinct-push nat_eq_equiv points p is.distinct (not_any (list_any (eqb p) points) refl) }
    where
      not_any : (t : Bool) → list_any (eqb p) points ≡ t → list_any (eqb p) points ≡ false
      not_any true e = absurd (absent (Contains-from_any (λ x y. eqb-true x y) p points e))
      not_any false e = e

  pub points_room : length points < 256
  points_room =
      let most : length (points ++ p ∷ []) ≤ 256 = length-le_from_distinct_below (points ++ p ∷ []) 256 ArePoints-push.distinct
      (λ q e. (let m : Contains (points ++ p ∷ []) q = Contains-from_any (λ x y. eqb-true x y) q (points ++ p ∷ []) e in
      subst (λ (r : ℕ). r < 256) m.2 (ArePoints-push.below m.0 q m.1))) in
      omega (arith, most, length-append points (p ∷ []))

-- ---- marks

AreMarks-none : (marks : List Bool) → length marks ≡ 256 → ((p : ℕ) → get_or marks p false ≡ false) → AreMarks [] marks
AreMarks-none marks places none = record {
  places = places;
  listed = λ p h. absurd (false≢true (sym (none p) ∙ h));
  marked = λ p m. absurd (omega (arith, m.1));
}

pub AreMarks-start : (marks : List Bool) → marks ≡ replicate 256 false → AreMarks [] marks
AreMarks-start marks is = subst (AreMarks []) (sym is) (AreMarks-none (replicate 256 false) (length-replicate 256 false) (λ p. none p))
  where
    none : (p : ℕ) → get_or (replicate 256 false) p false ≡ false
    none p =
        elim (cases_lt p 256) [
          | inl lt ↦ get_or-replicate 256 p false false lt
          | inr ge ↦ get_or_past (replicate 256 false) p false (omega (arith, ge, length-replicate 256 false))
        ]

pub absent_unmarked : (points : List ℕ) (marks : List Bool) (p : ℕ) → AreMarks points marks → get_or marks p false ≡ false → Contains points p → ⊥
absent_unmarked points marks p is none m = false≢true (sym none ∙ is.marked p m)

pub AreMarks-push : (points : List ℕ) (marks : List Bool) (p : ℕ) → p < 256 → AreMarks points marks → AreMarks (points ++ p ∷ []) (set marks p true)
AreMarks-push points marks p in_p is = record {
  places = length-set marks p true ∙ is.places;
  listed = λ q h. elim (cases_eq q p) [
    | inl same ↦ subst (Contains (points ++ p ∷ [])) (sym same) (Contains-push points p)
    | inr other ↦ Contains-append_left points (p ∷ []) q (is.listed q (sym (get_or-set_other marks p q true false (λ e. other (omega arith))) ∙ h))
  ];
  marked = λ q m. elim (cases_eq q p) [
    | inl same ↦ subst (λ (r : ℕ). get_or (set marks p true) r false ≡ true) (sym same) (get_or-set_same marks p true false (omega (arith, in_p, is.places)))
    | inr other ↦ get_or-set_other marks p q true false (λ e. other (omega arith)) ∙ is.marked q (before q other (Contains-push_cases points p q m))
  ];
}
  where
    before : (q : ℕ) → q ≢ p → Contains points q ⊎ (p ≡ q) → Contains points q
    before q other (inl m) = m
    before q other (inr e) = absurd (other (sym e))

pub AreUnmarked-start : (points : List ℕ) (marks : List Bool) → length marks ≡ 256 → AreUnmarked points 0 marks marks
AreUnmarked-start points marks places = record { places = places; rest = λ p h. h; none = λ j p lt. absurd (omega (arith, lt)) }

pub AreUnmarked-more : (points : List ℕ) (old new : List Bool) (i : ℕ) → i < length points → get_or points i 0 < 256 → AreUnmarked points i old new → AreUnmarked points (i + 1) old (set new (get_or points i 0) false)
AreUnmarked-more points old new i lt in_p is = record {
  places = length-set new p false ∙ is.places;
  rest = λ q h. elim (cases_eq q p) [
    | inl same ↦ absurd (false≢true (sym (here q same) ∙ h))
    | inr other ↦ is.rest q (sym (get_or-set_other new p q false false (λ e. other (omega arith))) ∙ h)
  ];
  none = λ j q lt_j in_j at. elim (cases_eq q p) [
    | inl same ↦ here q same
    | inr other ↦ get_or-set_other new p q false false (λ e. other (omega arith)) ∙ is.none j q (before j q lt_j in_j at other) in_j at
  ];
}
  where
    p : ℕ
    p = get_or points i 0

    here : (q : ℕ) → q ≡ p → get_or (set new p false) q false ≡ false
    here q same = subst (λ (r : ℕ). get_or (set new p false) r false ≡ false) (sym same) (get_or-set_same new p false false (omega (arith, in_p, is.places)))

    before : (j q : ℕ) → j < i + 1 → j < length points → get_or points j q ≡ q → q ≢ p → j < i
    before j q lt_j in_j at other =
        elim (cases_eq j i) [
          | inl same ↦ absurd (other (sym at ∙ (get_or_default points j q 0 in_j ∙ ap (λ (r : ℕ). get_or points r 0) same)))
          | inr less ↦ omega (arith, less, lt_j)
        ]

-- no mark is left where all points are unmarked
pub AreMarks-cleared : (points : List ℕ) (old new : List Bool) → AreMarks points old → AreUnmarked points (length points) old new → AreMarks [] new
AreMarks-cleared points old new marks is = AreMarks-none new is.places (λ p. none p (get_or new p false) refl)
  where
    none : (p : ℕ) (mark : Bool) → get_or new p false ≡ mark → get_or new p false ≡ false
    none p true e = (let m : Contains points p = marks.listed p (is.rest p e) in is.none m.0 p m.1 m.1 m.2)
    none p false e = e
