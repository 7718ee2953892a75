-- What the rules of a well-named list bring about: what has a class is a fact, and what has none a kind.
use Rattle.std.proofs.Common.{◌≡◌, ◌∙◌, Bool, true, false, ◌||◌, cond, ℕ, List, [], ◌∷◌, ◌++◌, map, refl, sym, ap}
use Rattle.std.specs.Prelude.{Option, Some, None, IsSome}
use Rattle.std.specs.List.{list_any}
use Rattle.std.specs.Cmp.Lexicographic.{bytes_decides}
use Rattle.std.proofs.lemmas.List.Folds.{list_any-append}
use Rattle.std.proofs.Math.Bool.{or-true}
use Rattle.tmm_model.specs.declared.premise.Premise.{Premise}
use Rattle.tmm_model.specs.declared.premise.Premise.TheVariants.{Class, Kind, Point, Event, Token, Span, Dist, Rule, Protect, Against}
use Rattle.tmm_model.specs.declared.token.Shape.TheVariants.{Persistence}
use Rattle.tmm_model.specs.Beliefs.{as_effect}
use Rattle.tmm_model.specs.Points.{same_name}
use Rattle.tmm_model.specs.Sorts.{Sort, a_class, a_fact, a_kind, a_point, an_event, a_token, a_span, a_dist, a_rule, a_protection, a_rivalry, is_effect, fact_declaration, declared_by, sort_in, class_in, a_name, uses_of}
use Rattle.tmm_model.specs.Standing.{name_of}
use Rattle.tmm_model.specs.Verdicts.{first_taken, words_known}
use Rattle.list_theory.specs.WellNamed.{AllFollow, IsWellNamed}
use Rattle.list_theory.proofs.Elements.{In}
use Rattle.list_theory.proofs.WellNamed.{IsNewThen, first_taken-none, words_known-push}
use Rattle.premise_list.specs.Words.{facts_of, own_sort}
use Rattle.premise_list.proofs.Lookups.{declarations_parted}
use Rattle.premise_list.proofs.Facts.{class_in-cons, sort_in-cons, fact-class, used_after}
use Rattle.timeline.specs.Rows.{shape_of, held_with}

-- ---- kinds

-- a known word is none of those that are declared anew
not_again : (n : List ℕ) (known ws : List (List ℕ)) → first_taken known ws ≡ None → list_any (same_name n) known ≡ true → list_any (same_name n) ws ≡ false
not_again n known [] none there = refl
not_again n known (w ∷ ws) none there =
    let new = first_taken-none known w ws none in
    by (same_name n w) refl new (λ k. not_again n (w ∷ known) ws new.rest k)
  where
    by : (b : Bool) → same_name n w ≡ b → IsNewThen known w ws → (list_any (same_name n) (w ∷ known) ≡ true → list_any (same_name n) ws ≡ false) → (b || list_any (same_name n) ws) ≡ false
    by true e new again =
        let same : n ≡ w = (bytes_decides n w).0 e in
        let other : list_any (same_name n) known ≡ false = ap (λ m. list_any (same_name m) known) same ∙ new.new in
        absurd (let never : true ≡ false = sym there ∙ other in cc)
    by false e new again = again (ap (λ b. b || list_any (same_name n) known) e ∙ there)

facts_named : (n : List ℕ) (fs : List (List ℕ)) → list_any (same_name n) (map (λ d. d.0) (map fact_declaration fs)) ≡ list_any (same_name n) fs
facts_named n [] = refl
facts_named n (f ∷ fs) = ap (λ b. same_name n f || b) (facts_named n fs)

-- the words that a premise declares are its name and its facts
declared_any : (n : List ℕ) (p : Premise) → list_any (same_name n) (declared_by p) ≡ (same_name n (name_of p) || list_any (same_name n) (facts_of p))
declared_any n p = ap (λ ds. list_any (same_name n) (map (λ d. d.0) ds)) (declarations_parted p) ∙ ap (λ b. same_name n (name_of p) || b) (facts_named n (facts_of p))

or_none : (a b : Bool) → (a || b) ≡ false → b ≡ false
or_none true b e = cc
or_none false b e = e

-- what is known before is no fact of a class
known_no_class : (n : List ℕ) (earlier premises : List Premise) → AllFollow earlier premises → list_any (same_name n) (words_known earlier) ≡ true → class_in premises n ≡ None
known_no_class n earlier [] h there = refl
known_no_class n earlier (p ∷ premises) h there =
    let none : list_any (same_name n) (facts_of p) ≡ false = or_none (same_name n (name_of p)) (list_any (same_name n) (facts_of p)) (sym (declared_any n p) ∙ not_again n (words_known earlier) (declared_by p) h.0.new there) in
    class_in-cons n p premises
    ∙ ap (λ b. cond b (Some (name_of p)) (class_in premises n)) none
    ∙ known_no_class n (earlier ++ p ∷ []) premises h.1
    (ap (list_any (same_name n)) (words_known-push earlier p) ∙ list_any-append (same_name n) (words_known earlier) (declared_by p) ∙ ap (λ b. b || list_any (same_name n) (declared_by p)) there)

kind_alone : (p : Premise) → own_sort p ≡ a_kind → facts_of p ≡ []
kind_alone (Class name facts) e = cc
kind_alone (Kind name) e = refl
kind_alone (Point name) e = cc
kind_alone (Event name kind) e = cc
kind_alone (Token name fact) e = cc
kind_alone (Span name fact) e = cc
kind_alone (Dist name from to lo hi) e = cc
kind_alone (Rule name trigger lo hi effect given unless_facts) e = cc
kind_alone (Protect name fact from to) e = cc
kind_alone (Against name one other) e = cc

kind_after : (n : List ℕ) (earlier premises : List Premise) → AllFollow earlier premises → sort_in premises n ≡ Some a_kind → class_in premises n ≡ None
kind_after n earlier [] h e = refl
kind_after n earlier (p ∷ premises) h e =
    class_in-cons n p premises
    ∙ by (same_name n (name_of p)) refl (list_any (same_name n) (facts_of p)) refl (kind_after n (earlier ++ p ∷ []) premises h.1) (sym (sort_in-cons n p premises) ∙ e)
  where
    by : (a : Bool) → same_name n (name_of p) ≡ a → (b : Bool) → list_any (same_name n) (facts_of p) ≡ b → (sort_in premises n ≡ Some a_kind → class_in premises n ≡ None)
        → cond a (Some (own_sort p)) (cond b (Some a_fact) (sort_in premises n)) ≡ Some a_kind → cond b (Some (name_of p)) (class_in premises n) ≡ None
    by true own b facts again f =
        let kind : own_sort p ≡ a_kind = cc in
        let none : b ≡ false = sym facts ∙ ap (list_any (same_name n)) (kind_alone p kind) in
        ap (λ c. cond c (Some (name_of p)) (class_in premises n)) none
        ∙ known_no_class n (earlier ++ p ∷ []) premises h.1
        (ap (list_any (same_name n)) (words_known-push earlier p)
        ∙ list_any-append (same_name n) (words_known earlier) (declared_by p)
        ∙ ap (λ b. list_any (same_name n) (words_known earlier) || b) (declared_any n p ∙ ap (λ b. b || list_any (same_name n) (facts_of p)) own)
        ∙ or-true (list_any (same_name n) (words_known earlier)))
    by false own true facts again f = cc
    by false own false facts again f = again f

-- a kind has no class
pub kind_no_class : (n : List ℕ) (premises : List Premise) → IsWellNamed premises → sort_in premises n ≡ Some a_kind → class_in premises n ≡ None
kind_no_class n premises h = kind_after n [] premises h

-- **What a rule brings about**: what has a class is a fact, and what has none a kind.
pub effect_is : (premises : List Premise) → IsWellNamed premises → (p : Premise) → In p premises → (n : List ℕ) → In (a_name n is_effect) (uses_of p)
    → as_effect n (sort_in premises n) ≡ (shape_of (held_with n (class_in premises n)), n)
effect_is premises h p at n use_ = let (sort, declared, wanted) = used_after [] premises h p at n is_effect use_ in ap (as_effect n) declared ∙ by sort declared wanted
  where
    some : (o : Option (List ℕ)) → IsSome o → shape_of (held_with n o) ≡ Persistence
    some (Some class) h = refl
    some None h = absurd (cc (h))

    by : (sort : Sort) → sort_in premises n ≡ Some sort → is_effect sort ≡ true → as_effect n (Some sort) ≡ (shape_of (held_with n (class_in premises n)), n)
    by a_fact e w = λ i. (sym (some (class_in premises n) (fact-class n premises e)) i, n)
    by a_kind e w = λ i. (shape_of (held_with n (sym (kind_no_class n premises h e) i)), n)
    by a_class e w = cc
    by a_point e w = cc
    by an_event e w = cc
    by a_token e w = cc
    by a_span e w = cc
    by a_dist e w = cc
    by a_rule e w = cc
    by a_protection e w = cc
    by a_rivalry e w = cc
