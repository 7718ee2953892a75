-- The order of occurrences is total, and tells different ones apart.
use Rattle.std.proofs.Common.{◌≡◌, ℕ, List, [], ◌∷◌, ◌++◌, refl, sym, ◌∙◌, ap, subst, inl}
use Rattle.std.specs.declared.cmp.Ordering.{Ordering}
use Rattle.std.specs.declared.cmp.Ordering.TheVariants.{Less, Equal, Greater}
use Rattle.std.specs.Ordering.{int_cmp, nat_cmp, ordering_then, is_eq}
use Rattle.std.specs.Cmp.{IsTotalOrder, unsigned_ties}
use Rattle.std.specs.Cmp.Lexicographic.{slice_cmp, lists_ties, bytes_decides, nat_list_cmp_total}
use Rattle.std.proofs.lemmas.Cmp.{then_total, on_total, int_cmp_total}
use Rattle.tmm_model.specs.declared.point.PointName.TheVariants.{Start, Begin, End}
use Rattle.tmm_model.specs.Moments.{Moment, At, After, Distances, early, printed, occ_cmp}
use Rattle.tmm_model.specs.Standing.{Standing}
use Rattle.tmm_model.specs.Types.{IsOrderOn}
use Rattle.list_theory.proofs.Elements.{In, In-right}

-- an occurrence whose names have no `/`
abbrev pub IsSpelt : Moment → Type 0
IsSpelt (At Start) = ⊥
IsSpelt (At (End k)) = ⊥
IsSpelt (At (Begin k)) = In 47 k → ⊥
IsSpelt (After t r) = IsSpelt t × (In 47 r → ⊥)

-- a text is cut in one way at its last `/`
one_cut : (a b r q : List ℕ) → a ++ (47 ∷ r) ≡ b ++ (47 ∷ q) → (In 47 r → ⊥) → (In 47 q → ⊥) → (a ≡ b) × (r ≡ q)
one_cut [] [] r q e no_r no_q = (refl, cc)
one_cut [] (y ∷ b) r q e no_r no_q = let same : r ≡ b ++ (47 ∷ q) = cc in absurd (no_r (subst (In 47) (sym same) (In-right b (47 ∷ q) 47 (inl refl))))
one_cut (x ∷ a) [] r q e no_r no_q = let same : q ≡ a ++ (47 ∷ r) = cc in absurd (no_q (subst (In 47) (sym same) (In-right a (47 ∷ r) 47 (inl refl))))
one_cut (x ∷ a) (y ∷ b) r q e no_r no_q =
    let tails : a ++ (47 ∷ r) ≡ b ++ (47 ∷ q) = cc in
    let heads : x ≡ y = cc in
    let rest = one_cut a b r q tails no_r no_q in
    ((λ i. heads i ∷ (rest.0) i), rest.1)

one_text : (x y : Moment) → IsSpelt x → IsSpelt y → printed x ≡ printed y → x ≡ y
one_text (At Start) y sx sy e = absurd sx
one_text (At (End k)) y sx sy e = absurd sx
one_text (At (Begin k)) (At Start) sx sy e = absurd sy
one_text (At (Begin k)) (At (End q)) sx sy e = absurd sy
one_text (At (Begin k)) (At (Begin q)) sx sy e = ap (λ n. At (Begin n)) e
one_text (At (Begin k)) (After u q) sx sy e = absurd (sx (subst (In 47) (sym e) (In-right (printed u) (47 ∷ q) 47 (inl refl))))
one_text (After t r) (At Start) sx sy e = absurd sy
one_text (After t r) (At (End q)) sx sy e = absurd sy
one_text (After t r) (At (Begin q)) sx sy e = absurd (sy (subst (In 47) e (In-right (printed t) (47 ∷ r) 47 (inl refl))))
one_text (After t r) (After u q) sx sy e =
    let cut = one_cut (printed t) (printed u) r q e (sx.1) (sy.1) in
    let triggers = one_text t u (sx.0) (sy.0) (cut.0) in
    λ i. After (triggers i) ((cut.1) i)

module _ (s : Standing) (far : Distances) where
  pub total : IsTotalOrder (occ_cmp s far)
  total = then_total (on_total (early s far) int_cmp_total) (on_total printed nat_list_cmp_total)

  tied_text : (a b : List ℕ) → slice_cmp nat_cmp a b ≡ Equal → a ≡ b
  tied_text a b e = (bytes_decides a b).0 (lists_ties nat_cmp unsigned_ties a b ∙ ap is_eq e)

  strict : (x y : Moment) → IsSpelt x → IsSpelt y → occ_cmp s far x y ≡ Equal → x ≡ y
  strict x y sx sy h = by (int_cmp (early s far x) (early s far y)) (slice_cmp nat_cmp (printed x) (printed y)) refl h
    where
      by : (r q : Ordering) → slice_cmp nat_cmp (printed x) (printed y) ≡ q → ordering_then r q ≡ Equal → x ≡ y
      by Less q e t = cc
      by Greater q e t = cc
      by Equal Less e t = cc
      by Equal Greater e t = cc
      by Equal Equal e t = one_text x y sx sy (tied_text (printed x) (printed y) e)

  pub ordered : IsOrderOn IsSpelt (occ_cmp s far)
  ordered = record { antisymm = λ x y _ _. total.antisymm x y; trans = λ x y z _ _ _. total.trans x y z; strict = strict }
