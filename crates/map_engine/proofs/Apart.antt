-- Every class is apart from what an edit touched that is not among the classes that were found.
use Rattle.std.proofs.Common.{◌≡◌, ◌∙◌, ℕ, Bool, true, false, not, ◌&&◌, List, [], refl, sym, ap, subst, inl, inr}
use Rattle.std.proofs.lemmas.Bool.{or_cases, or_right}
use Rattle.std.specs.Prelude.{◌⊎◌, Some}
use Rattle.std.specs.List.{Contains, list_any}
use Rattle.std.specs.Cmp.{both_ways}
use Rattle.std.specs.Cmp.Lexicographic.{bytes_decides}
use Rattle.tmm_model.specs.Beliefs.{class_of, says_against, are_rivals}
use Rattle.tmm_model.specs.Points.{same_name}
use Rattle.tmm_model.specs.Sorts.{class_in}
use Rattle.tmm_model.specs.Standing.{Standing}
use Rattle.list_theory.specs.WellNamed.{IsWellNamed}
use Rattle.list_theory.proofs.Elements.{In, both, list_any-In, In-list_any, In-from_Contains, some_value}
use Rattle.belief_theory.specs.Touched.{contradict}
use Rattle.belief_theory.proofs.Rivals.{class_is}
use Rattle.premise_list.specs.Rivalries.{rivalries, is_pair_of}
use Rattle.premise_list.specs.States.{States}
use Rattle.premise_list.proofs.PairsOfFacts.{any_pair}
use Rattle.dist_net.specs.Net.{Nets}
use Rattle.occ_tree.specs.Standing.{Kept}
use Rattle.occ_tree.specs.Touched.{IsUntouched}
use Rattle.supports.specs.Apart.{IsApart, HasSameRivals, AreRivalsUntouched, AreOthersApart}
use Rattle.supports.specs.Edited.{AreOthersUntouched}
use Rattle.premise_list.proofs.Facts.{rival_known}
use Rattle.revisions.specs.Alike.{SayAlike}
use Rattle.map_engine.specs.RivalClasses.{HasClassOf, HasClassesOf, Follows, IsThereOr, TakesInRivals}

-- ---- pairs of facts

-- rivals are the facts of a pair of the list
record IsPair (f g : List ℕ) (pairs : List (List ℕ × List ℕ)) : Type 0 where
  pair : List ℕ × List ℕ
  there : In pair pairs
  is : is_pair_of f g pair ≡ true

pair_of : (s : Standing) (f g : List ℕ) → are_rivals s f g ≡ true → IsPair f g (rivalries s.premises)
pair_of s f g rival =
    let says = (both (not (same_name f g)) (list_any (says_against f g) s.premises) rival).1 in
    let (pair, at, is) = list_any-In (is_pair_of f g) (rivalries s.premises) (sym (any_pair f g s.premises) ∙ says) in
    record { pair = pair; there = at; is = is }

rivals_from : (s t : Standing) (f g : List ℕ) (pair : List ℕ × List ℕ) → are_rivals s f g ≡ true → is_pair_of f g pair ≡ true → In pair (rivalries t.premises) → are_rivals t f g ≡ true
rivals_from s t f g pair rival is at =
    let differ = (both (not (same_name f g)) (list_any (says_against f g) s.premises) rival).0 in
    ap (λ b. b && list_any (says_against f g) t.premises) differ ∙ any_pair f g t.premises ∙ In-list_any (is_pair_of f g) (rivalries t.premises) pair at is

-- the first fact is one of the pair, and the other one the other
pair_cases : (f g : List ℕ) (pair : List ℕ × List ℕ) → is_pair_of f g pair ≡ true → ((pair.0 ≡ f) × (pair.1 ≡ g)) ⊎ ((pair.1 ≡ f) × (pair.0 ≡ g))
pair_cases f g pair is = elim (or_cases (same_name pair.0 f && same_name pair.1 g) (same_name pair.0 g && same_name pair.1 f) is) [
  | inl h ↦ (let (one, other) = both (same_name pair.0 f) (same_name pair.1 g) h in inl ((bytes_decides pair.0 f).0 one, (bytes_decides pair.1 g).0 other))
  | inr h ↦ (let (one, other) = both (same_name pair.0 g) (same_name pair.1 f) h in inr ((bytes_decides pair.1 f).0 other, (bytes_decides pair.0 g).0 one))
]

-- ---- classes that were found

module _ (lists : States) (nets : Nets) (tree : Kept) (touched found : List (List ℕ)) (takes : TakesInRivals lists touched found) (untouched : AreOthersUntouched nets tree touched)
    (class : List ℕ) (out : Contains found class → ⊥) where
  module _ (f : List ℕ) (known : class_in lists.present.premises f ≡ Some class) where
    not_found : HasClassOf lists.present f found → ⊥
    not_found has = out (has class known)

    not_both : (g : List ℕ) (pair : List ℕ × List ℕ) → is_pair_of f g pair ≡ true → HasClassesOf lists.present pair found → ⊥
    not_both g pair is has = elim (pair_cases f g pair is) [
      | inl h ↦ not_found (subst (λ z. HasClassOf lists.present z found) h.0 has.0)
      | inr h ↦ not_found (subst (λ z. HasClassOf lists.present z found) h.0 has.1)
    ]

    -- a rival in one list is one in the other
    still : (s t : Standing) → ((pair : List ℕ × List ℕ) → In pair (rivalries s.premises) → IsThereOr lists.present found (rivalries t.premises) pair)
        → (g : List ℕ) → are_rivals s f g ≡ true → are_rivals t f g ≡ true
    still s t there g rival =
        let p = pair_of s f g rival in
        elim (there p.pair p.there) [
          | inl at ↦ rivals_from s t f g p.pair rival p.is at
          | inr has ↦ absurd (not_both g p.pair p.is has)
        ]

    same_rivals : HasSameRivals lists class f
    same_rivals g = inr (both_ways (are_rivals lists.committed f g) (are_rivals lists.present f g) (still lists.committed lists.present takes.gone g) (still lists.present lists.committed takes.come g))

    follows : (a b : List ℕ) → Follows lists.present touched found a b → a ≡ f → (g : List ℕ) → b ≡ g → (other : List ℕ) × (class_in lists.present.premises g ≡ Some other) × IsUntouched nets tree other
    follows a b (inl (other, declared, elsewhere)) a_is g b_is = (other, subst (λ z. class_in lists.present.premises z ≡ Some other) b_is declared, untouched other elsewhere)
    follows a b (inr has) a_is g b_is = absurd (not_found (subst (λ z. HasClassOf lists.present z found) a_is has))

    rivals_untouched : AreRivalsUntouched lists nets tree f
    rivals_untouched g rival =
        let p = pair_of lists.present f g rival in
        let near = takes.near p.pair p.there in
        elim (pair_cases f g p.pair p.is) [
          | inl h ↦ follows p.pair.0 p.pair.1 near.0 h.0 g h.1
          | inr h ↦ follows p.pair.1 p.pair.0 near.1 h.0 g h.1
        ]

  is_apart : IsApart lists nets tree class
  is_apart = record {
    untouched = untouched class (λ at. out (takes.own class at));
    rivals = same_rivals;
    of_rivals = rivals_untouched;
  }

-- **What is not found is apart.**
pub others_apart : (lists : States) (nets : Nets) (tree : Kept) (touched found : List (List ℕ)) → TakesInRivals lists touched found → AreOthersUntouched nets tree touched → AreOthersApart lists nets tree found
others_apart lists nets tree touched found takes untouched class out = is_apart lists nets tree touched found takes untouched class out

-- ---- where the lists say the same

-- facts that contradict each other without a premise that says so are of one class
one_class : (s : Standing) (f g class : List ℕ) → class_of s f ≡ class → contradict s f g ≡ true → are_rivals s f g ≡ false → class_of s g ≡ class
one_class s f g class own e none = elim (or_cases (same_name (class_of s f) (class_of s g) && not (same_name f g)) (are_rivals s f g) e) [
  | inl h ↦ sym ((bytes_decides (class_of s f) (class_of s g)).0 (both (same_name (class_of s f) (class_of s g)) (not (same_name f g)) h).0) ∙ own
  | inr rival ↦ (let never : true ≡ false = sym rival ∙ none in absurd (cc never))
]

-- **Where both lists say the same and no class is touched, all are apart.**
pub still_apart : (lists : States) (nets : Nets) (tree : Kept) → IsWellNamed lists.present.premises → SayAlike lists.committed lists.present → AreOthersUntouched nets tree [] → AreOthersApart lists nets tree []
still_apart lists nets tree named say others class out = record { untouched = all class; rivals = rivals; of_rivals = of_rivals }
  where
    all : (c : List ℕ) → IsUntouched nets tree c
    all c = others c (λ at. In-from_Contains [] c at)

    rivals : (f : List ℕ) → class_in lists.present.premises f ≡ Some class → HasSameRivals lists class f
    rivals f known g = by (are_rivals lists.committed f g) refl (are_rivals lists.present f g) refl
      where
        own : class_of lists.present f ≡ class
        own = class_is lists.present f class known

        holds : (s : Standing) → are_rivals s f g ≡ true → contradict s f g ≡ true
        holds s rival = or_right (same_name (class_of s f) (class_of s g) && not (same_name f g)) (are_rivals s f g) rival

        by : (a : Bool) → are_rivals lists.committed f g ≡ a → (b : Bool) → are_rivals lists.present f g ≡ b
            → ((class_of lists.committed g ≡ class) × (class_of lists.present g ≡ class)) ⊎ (are_rivals lists.committed f g ≡ are_rivals lists.present f g)
        by true e true d = inr (e ∙ sym d)
        by false e false d = inr (e ∙ sym d)
        by true e false d =
            let now = one_class lists.present f g class own (sym (say.contradict f g) ∙ holds lists.committed e) d in
            inl (say.class g ∙ now, now)
        by false e true d =
            let then = one_class lists.committed f g class (say.class f ∙ own) (say.contradict f g ∙ holds lists.present d) e in
            inl (then, sym (say.class g) ∙ then)

    of_rivals : (f : List ℕ) → class_in lists.present.premises f ≡ Some class → AreRivalsUntouched lists nets tree f
    of_rivals f known g rival =
        let (other, declared) = some_value (class_in lists.present.premises g) (rival_known lists.present named f g rival) in
        (other, declared, all other)
