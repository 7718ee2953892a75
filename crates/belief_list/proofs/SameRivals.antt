-- Premises set the same facts against one in both lists where no pair that changed has it.
use Rattle.std.proofs.Common.{◌≡◌, ◌∙◌, ℕ, Bool, true, false, not, ◌&&◌, ◌||◌, List, [], ◌∷◌, length, refl, sym, ap, inl, inr}
use Rattle.std.proofs.lemmas.Bool.{or_cases, or_right}
use Rattle.std.specs.List.{list_any}
use Rattle.tmm_model.specs.Beliefs.{says_against, are_rivals}
use Rattle.tmm_model.specs.Points.{same_name}
use Rattle.tmm_model.specs.Standing.{Standing}
use Rattle.list_theory.proofs.Elements.{In, both, list_any-In, In-list_any}
use Rattle.premise_list.specs.Rivalries.{rivalries, is_pair_of, AreChanges}
use Rattle.premise_list.specs.States.{States}
use Rattle.premise_list.proofs.PairsOfFacts.{any_pair}
use Rattle.belief_list.specs.Finding.{has_fact, AreRivalsKept}

-- a test that no pair that changed passes is passed in both lists or in none
any_alike : (test : List ℕ × List ℕ → Bool) (before now pairs : List (List ℕ × List ℕ)) → AreChanges before now pairs → ((pair : List ℕ × List ℕ) → In pair pairs → test pair ≡ true → ⊥)
    → list_any test before ≡ list_any test now
any_alike test before now pairs changes none = by (list_any test before) (list_any test now) refl refl
  where
    by : (v w : Bool) → list_any test before ≡ v → list_any test now ≡ w → list_any test before ≡ list_any test now
    by true true was is = was ∙ sym is
    by false false was is = was ∙ sym is
    by true false was is =
        let (pair, at, passes) = list_any-In test before was in
        absurd (elim (changes.gone pair at) [
          | inl there ↦ (let yes = In-list_any test now pair there passes in cc)
          | inr alone ↦ none pair alone passes
        ])
    by false true was is =
        let (pair, at, passes) = list_any-In test now is in
        absurd (elim (changes.come pair at) [
          | inl there ↦ (let yes = In-list_any test before pair there passes in cc)
          | inr alone ↦ none pair alone passes
        ])

-- the pair of a fact and another one has the fact
has_own : (f g : List ℕ) (pair : List ℕ × List ℕ) → is_pair_of f g pair ≡ true → has_fact f pair ≡ true
has_own f g pair is = elim (or_cases (same_name pair.0 f && same_name pair.1 g) (same_name pair.0 g && same_name pair.1 f) is) [
  | inl forth ↦ (let (one, other) = both (same_name pair.0 f) (same_name pair.1 g) forth in λ i. one i || same_name pair.1 f)
  | inr back ↦ (let (one, other) = both (same_name pair.0 g) (same_name pair.1 f) back in or_right (same_name pair.0 f) (same_name pair.1 f) other)
]

-- where no premise sets facts against each other, none contradicts another one but by its class
pub none_said : (s : Standing) → length (rivalries s.premises) ≡ 0 → (f g : List ℕ) → are_rivals s f g ≡ false
none_said s none f g = ap (λ v. not (same_name f g) && v) (any_pair f g s.premises ∙ by (rivalries s.premises) none) ∙ and_false (not (same_name f g))
  where
    by : (pairs : List (List ℕ × List ℕ)) → length pairs ≡ 0 → list_any (is_pair_of f g) pairs ≡ false
    by [] e = refl
    by (pair ∷ pairs) e = cc

    and_false : (v : Bool) → (v && false) ≡ false
    and_false true = refl
    and_false false = refl

pub rivals_kept : (lists : States) (pairs : List (List ℕ × List ℕ)) → AreChanges (rivalries lists.committed.premises) (rivalries lists.present.premises) pairs
    → (f : List ℕ) → list_any (has_fact f) pairs ≡ false → AreRivalsKept lists f
rivals_kept lists pairs changes f none g = λ i. not (same_name f g) && said i
  where
    out : (pair : List ℕ × List ℕ) → In pair pairs → is_pair_of f g pair ≡ true → ⊥
    out pair at is = let yes = In-list_any (has_fact f) pairs pair at (has_own f g pair is) in cc

    said : list_any (says_against f g) lists.committed.premises ≡ list_any (says_against f g) lists.present.premises
    said =
        any_pair f g lists.committed.premises
        ∙ any_alike (is_pair_of f g) (rivalries lists.committed.premises) (rivalries lists.present.premises) pairs changes out
        ∙ sym (any_pair f g lists.present.premises)
