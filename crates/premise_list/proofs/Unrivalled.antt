-- Where no premise sets a fact against another one, no fact contradicts it but by its class.
use Rattle.std.proofs.Common.{◌≡◌, ◌∙◌, ℕ, Bool, true, false, not, ◌&&◌, ◌||◌, List, refl, sym, ap, inl, inr}
use Rattle.std.proofs.lemmas.Bool.{or_cases, or_right, not-true}
use Rattle.std.specs.List.{list_any}
use Rattle.tmm_model.specs.Beliefs.{says_against, are_rivals}
use Rattle.tmm_model.specs.Points.{same_name}
use Rattle.tmm_model.specs.Standing.{Standing}
use Rattle.walk_theory.proofs.Points.{same_name-is, same_name-self}
use Rattle.list_theory.proofs.Elements.{both, list_any-In, In-list_any}
use Rattle.premise_list.specs.Rivalries.{rivalries, is_pair_of, sets_against, has_rivals}
use Rattle.premise_list.proofs.PairsOfFacts.{any_pair}

-- two names that differ do so in either order
pub differ_back : (f g : List ℕ) → same_name f g ≡ false → same_name g f ≡ false
differ_back f g e = by (same_name g f) refl
  where
    by : (b : Bool) → same_name g f ≡ b → same_name g f ≡ false
    by false d = d
    by true d = let same : same_name f g ≡ true = ap (same_name f) (same_name-is g f d) ∙ same_name-self f in cc

-- the pair of two facts that differ sets each of them against another one
pair_sets : (f g : List ℕ) (pair : List ℕ × List ℕ) → same_name f g ≡ false → is_pair_of f g pair ≡ true → sets_against f pair ≡ true
pair_sets f g pair differ is = elim (or_cases (same_name pair.0 f && same_name pair.1 g) (same_name pair.0 g && same_name pair.1 f) is) [
  | inl forth ↦
      (let (one, other) = both (same_name pair.0 f) (same_name pair.1 g) forth in
      let apart : same_name pair.0 pair.1 ≡ false = (λ i. same_name (same_name-is pair.0 f one i) (same_name-is pair.1 g other i)) ∙ differ in
      λ i. (one i || same_name pair.1 f) && not (apart i))
  | inr back ↦
      (let (one, other) = both (same_name pair.0 g) (same_name pair.1 f) back in
      let apart : same_name pair.0 pair.1 ≡ false = (λ i. same_name (same_name-is pair.0 g one i) (same_name-is pair.1 f other i)) ∙ differ_back f g differ in
      (λ i. (same_name pair.0 f || other i) && not (apart i)) ∙ ap (λ b. b && true) (or_right (same_name pair.0 f) true refl))
]

pub no_rival : (s : Standing) (f : List ℕ) → has_rivals s f ≡ false → (g : List ℕ) → are_rivals s f g ≡ false
no_rival s f none g = by (are_rivals s f g) refl
  where
    by : (b : Bool) → are_rivals s f g ≡ b → are_rivals s f g ≡ false
    by false e = e
    by true e =
        let (differ, says) = both (not (same_name f g)) (list_any (says_against f g) s.premises) e in
        let (pair, among, is) = list_any-In (is_pair_of f g) (rivalries s.premises) (sym (any_pair f g s.premises) ∙ says) in
        let some : has_rivals s f ≡ true = In-list_any (sets_against f) (rivalries s.premises) pair among (pair_sets f g pair (not-true (same_name f g) differ) is) in
        cc
