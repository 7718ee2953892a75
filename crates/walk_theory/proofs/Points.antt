-- Tests that tell whether two names or two points are the same.
use Rattle.std.proofs.Common.{◌≡◌, ◌≢◌, ◌⊎◌, inl, inr, ℕ, Bool, true, false, List, ap, sym, refl, ◌∙◌}
use Rattle.std.specs.Bool.{Decides}
use Rattle.std.specs.Cmp.{IsEquivalence}
use Rattle.std.specs.Cmp.Lexicographic.{bytes_decides}
use Rattle.std.proofs.lemmas.Bool.{false≢true, false_from_ne_true, both_ways}
use Rattle.std.proofs.lemmas.Bool.Decides.{same_from_decides, Decides-like}
use Rattle.tmm_model.specs.declared.point.PointName.{PointName}
use Rattle.tmm_model.specs.declared.point.PointName.TheVariants.{Start, Begin, End}
use Rattle.tmm_model.specs.Points.{same_name, same_point}

module _ {P : Type 0} (same : P → P → Bool) (decides : (x y : P) → Decides (same x y) (x ≡ y)) where
  -- what the test tells of two points
  pub tells : (x y : P) → ((same x y ≡ true) × (x ≡ y)) ⊎ ((same x y ≡ false) × (x ≢ y))
  tells x y =
      elim (same x y) as (λ b. same x y ≡ b → ((b ≡ true) × (x ≡ y)) ⊎ ((b ≡ false) × (x ≢ y))) [
        | true ↦ λ e. inl (refl, (decides x y).0 e)
        | false ↦ λ e. inr (refl, λ s. false≢true (sym e ∙ (decides x y).1 s))
      ] refl

  pub IsEquivalence-from_decides : IsEquivalence same
  IsEquivalence-from_decides = record {
    refl = λ x. (decides x x).1 refl;
    symm = λ x y. same_from_decides (same x y) (same y x) (decides x y) (Decides-like (same y x) sym sym (decides y x));
    congr = λ x y z h. ap (λ t. same t z) ((decides x y).0 h);
  }

pub same_name-is : (a b : List ℕ) → same_name a b ≡ true → a ≡ b
same_name-is a b = (bytes_decides a b).0

pub same_name-self : (a : List ℕ) → same_name a a ≡ true
same_name-self a = (bytes_decides a a).1 refl

pub names_differ : (a b : List ℕ) → a ≢ b → same_name a b ≡ false
names_differ a b other = false_from_ne_true (same_name a b) (λ e. other (same_name-is a b e))

pub names_apart : (a b : List ℕ) → same_name a b ≡ false → a ≢ b
names_apart a b differ same = both_ways (same_name a b) differ ((bytes_decides a b).1 same)

pub same_point-is : (p q : PointName) → same_point p q ≡ true → p ≡ q
same_point-is Start Start e = refl
same_point-is Start (Begin b) e = cc
same_point-is Start (End b) e = cc
same_point-is (Begin a) Start e = cc
same_point-is (Begin a) (Begin b) e = ap Begin (same_name-is a b e)
same_point-is (Begin a) (End b) e = cc
same_point-is (End a) Start e = cc
same_point-is (End a) (Begin b) e = cc
same_point-is (End a) (End b) e = ap End (same_name-is a b e)

pub same_point-self : (p : PointName) → same_point p p ≡ true
same_point-self Start = refl
same_point-self (Begin a) = same_name-self a
same_point-self (End a) = same_name-self a

pub Decides-same_point : (p q : PointName) → Decides (same_point p q) (p ≡ q)
Decides-same_point p q = (same_point-is p q, λ e. ap (same_point p) (sym e) ∙ same_point-self p)
