-- Whether two decisions are one, and two outcomes.
use Rattle.std.proofs.Common.{◌≡◌, ℕ, Bool, true, false, ◌&&◌, List, [], ◌∷◌, refl, ap, inl, inr}
use Rattle.std.proofs.lemmas.Bool.Decides.{eqb_tells}
use Rattle.std.specs.Prelude.{◌⊎◌}
use Rattle.std.specs.Cmp.Lexicographic.{bytes_decides}
use Rattle.tmm_model.specs.Moments.{Moment, same_moment}
use Rattle.tmm_model.specs.Points.{same_name}
use Rattle.list_theory.proofs.Elements.{In, both}
use Rattle.belief_theory.specs.Outcomes.{Outcome, fires, blocked, barred, beyond}
use Rattle.belief_theory.proofs.Moments.{Decides-same_moment}
use Rattle.revisions.specs.Steps.{Differs}

pub same_or : (t : Moment) (r : List ℕ) (u : Moment) (q : List ℕ) → ((u ≡ t) × (q ≡ r)) ⊎ Differs t r u q
same_or t r u q = by (same_moment u t && same_name q r) refl
  where
    joined : (a b : Bool) → a ≡ true → b ≡ true → (a && b) ≡ true
    joined a b e f = λ i. e i && f i

    by : (v : Bool) → (same_moment u t && same_name q r) ≡ v → ((u ≡ t) × (q ≡ r)) ⊎ Differs t r u q
    by true e = let h = both (same_moment u t) (same_name q r) e in inl ((Decides-same_moment u t).0 h.0, (bytes_decides q r).0 h.1)
    by false e = inr (λ s. let f : (same_moment u t && same_name q r) ≡ true = joined (same_moment u t) (same_name q r) ((Decides-same_moment u t).1 s.0) ((bytes_decides q r).1 s.1) in cc)

-- a decision is in a list, or isn't
pub in_or : (xs : List (Moment × List ℕ)) (u : Moment) (q : List ℕ) → In (u, q) xs ⊎ (In (u, q) xs → ⊥)
in_or [] u q = inr (λ h. h)
in_or (x ∷ xs) u q = by (same_or u q x.0 x.1) (in_or xs u q)
  where
    by : ((x.0 ≡ u) × (x.1 ≡ q)) ⊎ Differs u q x.0 x.1 → In (u, q) xs ⊎ (In (u, q) xs → ⊥) → In (u, q) (x ∷ xs) ⊎ (In (u, q) (x ∷ xs) → ⊥)
    by (inl same) rest = inl (inl (λ i. (same.0 i, same.1 i)))
    by (inr differs) (inl there) = inl (inr there)
    by (inr differs) (inr not_there) = inr (λ h. elim h [ inl e ↦ differs (ap (λ y. y.0) e, ap (λ y. y.1) e) | inr at ↦ not_there at ])

-- two moments are one, or aren't
pub moment_or : (x y : Moment) → (x ≡ y) ⊎ (x ≡ y → ⊥)
moment_or x y = by (same_moment x y) refl
  where
    by : (v : Bool) → same_moment x y ≡ v → (x ≡ y) ⊎ (x ≡ y → ⊥)
    by true e = inl ((Decides-same_moment x y).0 e)
    by false e = inr (λ same. let f : same_moment x y ≡ true = (Decides-same_moment x y).1 same in cc)

moments_or : (ks ls : List Moment) → (ks ≡ ls) ⊎ (ks ≡ ls → ⊥)
moments_or [] [] = inl refl
moments_or [] (l ∷ ls) = inr (λ same. cc)
moments_or (k ∷ ks) [] = inr (λ same. cc)
moments_or (k ∷ ks) (l ∷ ls) = by (moment_or k l) (moments_or ks ls)
  where
    by : (k ≡ l) ⊎ (k ≡ l → ⊥) → (ks ≡ ls) ⊎ (ks ≡ ls → ⊥) → (k ∷ ks ≡ l ∷ ls) ⊎ (k ∷ ks ≡ l ∷ ls → ⊥)
    by (inl first) (inl rest) = inl (λ i. first i ∷ rest i)
    by (inr other) rest = inr (λ same. let first : k ≡ l = cc in other first)
    by (inl first) (inr other) = inr (λ same. let rest : ks ≡ ls = cc in other rest)

-- two outcomes are one, or aren't
pub outcome_or : (o p : Outcome) → (o ≡ p) ⊎ (o ≡ p → ⊥)
outcome_or (fires ks) (fires ls) = elim (moments_or ks ls) [ inl same ↦ inl (ap fires same) | inr other ↦ inr (λ same. let inner : ks ≡ ls = cc in other inner) ]
outcome_or (blocked m) (blocked n) = elim (eqb_tells m n) [ inl same ↦ inl (ap blocked same.1) | inr other ↦ inr (λ same. let inner : m ≡ n = cc in other.1 inner) ]
outcome_or (barred m) (barred n) = elim (eqb_tells m n) [ inl same ↦ inl (ap barred same.1) | inr other ↦ inr (λ same. let inner : m ≡ n = cc in other.1 inner) ]
outcome_or beyond beyond = inl refl
outcome_or (fires ks) (blocked n) = inr (λ same. cc)
outcome_or (fires ks) (barred n) = inr (λ same. cc)
outcome_or (fires ks) beyond = inr (λ same. cc)
outcome_or (blocked m) (fires ls) = inr (λ same. cc)
outcome_or (blocked m) (barred n) = inr (λ same. cc)
outcome_or (blocked m) beyond = inr (λ same. cc)
outcome_or (barred m) (fires ls) = inr (λ same. cc)
outcome_or (barred m) (blocked n) = inr (λ same. cc)
outcome_or (barred m) beyond = inr (λ same. cc)
outcome_or beyond (fires ls) = inr (λ same. cc)
outcome_or beyond (blocked n) = inr (λ same. cc)
outcome_or beyond (barred n) = inr (λ same. cc)
