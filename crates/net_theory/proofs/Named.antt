-- Numbers and names of points.
use Rattle.std.proofs.Common.{◌≡◌, ◌⊎◌, inl, inr, ◌∙◌, ℕ, zero, suc, true, false, cond, [], ◌∷◌, Option, Some, None, unwrap_or, ap, arith, refl}
use Rattle.tmm_model.specs.declared.point.PointName.{PointName}
use Rattle.tmm_model.specs.declared.point.PointName.TheVariants.{Start}
use Rattle.tmm_model.specs.Points.{same_point}
use Rattle.walk_theory.proofs.Points.{tells, Decides-same_point}
use Rattle.net_theory.specs.Represents.{Names, IsNumberOf, name_at, is_named, number_in}

-- no two numbers are of one point
abbrev pub AreDistinct : Names → Type 0
AreDistinct names = (p q : ℕ) (name : PointName) → IsNumberOf names p name → IsNumberOf names q name → p ≡ q

pub name_at-is : (names : Names) (n : ℕ) (p : PointName) → IsNumberOf names n p → name_at names n ≡ p
name_at-is names n p is = ap (λ o. unwrap_or o Start) is

tells_named : (known : Option PointName) (p : PointName) → ((is_named known p ≡ true) × (known ≡ Some p)) ⊎ (is_named known p ≡ false)
tells_named None p = inr refl
tells_named (Some q) p = elim (tells same_point Decides-same_point q p) [ inl same ↦ inl (same.0, ap (λ (x : PointName). Some x) same.1) | inr other ↦ inr other.0 ]

-- the number of a point is found
pub number_in-is : (names : Names) → AreDistinct names → (n : ℕ) (p : PointName) → IsNumberOf names n p → number_in names p ≡ n
unfolding number_in
number_in-is [] distinct n p is = absurd (cc (is))
number_in-is (known ∷ names) distinct zero p is =
    elim (tells_named known p) [
      | inl same ↦ ap (λ b. cond b 0 (suc (number_in names p))) same.0
      | inr other ↦ absurd (let named : is_named known p ≡ true = ap (λ (o : Option PointName). is_named o p) is ∙ (Decides-same_point p p).1 refl in cc)
    ]
number_in-is (known ∷ names) distinct (suc n) p is =
    elim (tells_named known p) [
      | inl same ↦ absurd (let never : 0 ≡ suc n = distinct 0 (suc n) p same.1 is in omega arith)
      | inr other ↦ ap (λ b. cond b 0 (suc (number_in names p))) other
          ∙ ap (λ k. suc k) (number_in-is names (λ i j q at_i at_j. (let e : suc i ≡ suc j = distinct (suc i) (suc j) q at_i at_j in omega arith)) n p is)
    ]
