-- What a well-named list says of the facts that it uses.
use Rattle.std.proofs.Common.{◌≡◌, ◌∙◌, inl, inr, Bool, true, false, not, ◌&&◌, ◌||◌, cond, ℕ, List, [], ◌∷◌, ◌++◌, map, refl, sym, ap, subst, append_assoc}
use Rattle.std.proofs.lemmas.Bool.{or_cases}
use Rattle.std.specs.Prelude.{Option, Some, None, IsSome}
use Rattle.std.specs.List.{list_any}
use Rattle.std.specs.Map.{lookup}
use Rattle.std.specs.Option.{option_or}
use Rattle.std.specs.Cmp.Lexicographic.{bytes_decides}
use Rattle.std.proofs.lemmas.Grind.{flat_map-append}
use Rattle.std.proofs.lemmas.List.Elements.{All-contains}
use Rattle.tmm_model.specs.declared.premise.Premise.{Premise}
use Rattle.tmm_model.specs.declared.premise.Premise.TheVariants.{Class, Kind, Point, Event, Token, Span, Dist, Rule, Protect, Against}
use Rattle.tmm_model.specs.Beliefs.{says_against, are_rivals}
use Rattle.tmm_model.specs.Points.{same_name}
use Rattle.tmm_model.specs.Sorts.{Sort, a_class, a_fact, a_kind, a_point, an_event, a_token, a_span, a_dist, a_rule, a_protection, a_rivalry, is_fact, fact_declaration, declarations_of, declarations_in, sort_in, class_in, a_name, fact_use, uses_of}
use Rattle.tmm_model.specs.Lines.{IsWellFormedPremise}
use Rattle.tmm_model.specs.Standing.{Standing, name_of}
use Rattle.tmm_model.specs.Verdicts.{Cause, unknown, ill_sorted, name_cause, use_cause}
use Rattle.list_theory.specs.WellNamed.{AllFollow, IsWellNamed, IsSound}
use Rattle.list_theory.proofs.Adding.{each_use}
use Rattle.list_theory.proofs.Elements.{In, Contains-from_In, both, list_any-In}
use Rattle.list_theory.proofs.WellNamed.{lookup-append}
use Rattle.premise_list.specs.Words.{facts_of, own_sort}
use Rattle.premise_list.proofs.Lookups.{declarations_parted}

-- ---- the class that declares a fact

-- the first premise declares the fact, or the class is that of the others
pub class_in-cons : (n : List ℕ) (p : Premise) (ps : List Premise) → class_in (p ∷ ps) n ≡ cond (list_any (same_name n) (facts_of p)) (Some (name_of p)) (class_in ps n)
class_in-cons n (Class name facts) ps = by (list_any (same_name n) facts.items)
  where
    by : (b : Bool) → elim b as (λ _. Option (List ℕ)) [ true ↦ Some name | false ↦ class_in ps n ] ≡ cond b (Some name) (class_in ps n)
    by true = refl
    by false = refl
class_in-cons n (Kind name) ps = refl
class_in-cons n (Point name) ps = refl
class_in-cons n (Event name kind) ps = refl
class_in-cons n (Token name fact) ps = refl
class_in-cons n (Span name fact) ps = refl
class_in-cons n (Dist name from to lo hi) ps = refl
class_in-cons n (Rule name trigger lo hi effect given unless_facts) ps = refl
class_in-cons n (Protect name fact from to) ps = refl
class_in-cons n (Against name one other) ps = refl

lookup-facts : (n : List ℕ) (fs : List (List ℕ)) (rest : List (List ℕ × Sort)) → lookup (same_name n) (map fact_declaration fs ++ rest) ≡ cond (list_any (same_name n) fs) (Some a_fact) (lookup (same_name n) rest)
lookup-facts n [] rest = refl
lookup-facts n (f ∷ fs) rest = by (same_name n f) (lookup-facts n fs rest)
  where
    by : (b : Bool) → lookup (same_name n) (map fact_declaration fs ++ rest) ≡ cond (list_any (same_name n) fs) (Some a_fact) (lookup (same_name n) rest)
        → cond b (Some a_fact) (lookup (same_name n) (map fact_declaration fs ++ rest)) ≡ cond (b || list_any (same_name n) fs) (Some a_fact) (lookup (same_name n) rest)
    by true e = refl
    by false e = e

-- the sort of a name, parted by the first premise's name, its facts, and the others
pub sort_in-cons : (n : List ℕ) (p : Premise) (ps : List Premise)
    → sort_in (p ∷ ps) n ≡ cond (same_name n (name_of p)) (Some (own_sort p)) (cond (list_any (same_name n) (facts_of p)) (Some a_fact) (sort_in ps n))
sort_in-cons n p ps =
    ap (λ ds. lookup (same_name n) (ds ++ declarations_in ps)) (declarations_parted p)
    ∙ ap (λ o. cond (same_name n (name_of p)) (Some (own_sort p)) o) (lookup-facts n (facts_of p) (declarations_in ps))

own_sort_other : (p : Premise) → own_sort p ≡ a_fact → ⊥
own_sort_other (Class name facts) e = cc
own_sort_other (Kind name) e = cc
own_sort_other (Point name) e = cc
own_sort_other (Event name kind) e = cc
own_sort_other (Token name fact) e = cc
own_sort_other (Span name fact) e = cc
own_sort_other (Dist name from to lo hi) e = cc
own_sort_other (Rule name trigger lo hi effect given unless_facts) e = cc
own_sort_other (Protect name fact from to) e = cc
own_sort_other (Against name one other) e = cc

-- what is declared as a fact has a class
pub fact-class : (n : List ℕ) (ps : List Premise) → sort_in ps n ≡ Some a_fact → IsSome (class_in ps n)
fact-class n [] h = cc
fact-class n (p ∷ ps) h =
    subst IsSome (sym (class_in-cons n p ps)) (by (same_name n (name_of p)) (list_any (same_name n) (facts_of p)) (fact-class n ps) (sym (sort_in-cons n p ps) ∙ h))
  where
    by : (a b : Bool) → (sort_in ps n ≡ Some a_fact → IsSome (class_in ps n))
        → cond a (Some (own_sort p)) (cond b (Some a_fact) (sort_in ps n)) ≡ Some a_fact → IsSome (cond b (Some (name_of p)) (class_in ps n))
    by true b again e = let own : own_sort p ≡ a_fact = cc in absurd (own_sort_other p own)
    by false true again e = refl
    by false false again e = again e

-- ---- uses

-- what a name is declared as, where that is as wanted
wanted_sort : (premises : List Premise) (n : List ℕ) (wanted : Sort → Bool) → use_cause premises (a_name n wanted) ≡ None → (sort : Sort) × (sort_in premises n ≡ Some sort) × (wanted sort ≡ true)
wanted_sort premises n wanted e = by (sort_in premises n) refl e
  where
    by : (o : Option Sort) → sort_in premises n ≡ o → name_cause o n wanted ≡ None → (sort : Sort) × (sort_in premises n ≡ Some sort) × (wanted sort ≡ true)
    by None f e = absurd (none (same_name n _) e)
      where
        none : (b : Bool) → elim b as (λ _. Option Cause) [ true ↦ Some (ill_sorted n) | false ↦ Some (unknown n) ] ≡ None → ⊥
        none true e = cc
        none false e = cc
    by (Some sort) f e = (sort, f, passes (wanted sort) e)
      where
        passes : (b : Bool) → elim b as (λ _. Option Cause) [ true ↦ None | false ↦ Some (ill_sorted n) ] ≡ None → b ≡ true
        passes true e = refl
        passes false e = cc

only_fact : (sort : Sort) → is_fact sort ≡ true → sort ≡ a_fact
only_fact a_class e = cc
only_fact a_fact e = refl
only_fact a_kind e = cc
only_fact a_point e = cc
only_fact an_event e = cc
only_fact a_token e = cc
only_fact a_span e = cc
only_fact a_dist e = cc
only_fact a_rule e = cc
only_fact a_protection e = cc
only_fact a_rivalry e = cc

-- a sort of a list is the sort in a longer one
sort-more : (n : List ℕ) (sort : Sort) (ps qs : List Premise) → sort_in ps n ≡ Some sort → sort_in (ps ++ qs) n ≡ Some sort
sort-more n sort ps qs e =
    ap (lookup (same_name n)) (flat_map-append declarations_of ps qs)
    ∙ lookup-append (same_name n) (declarations_in ps) (declarations_in qs)
    ∙ ap (λ o. option_or o (lookup (same_name n) (declarations_in qs))) e

pub used_after : (earlier premises : List Premise) → AllFollow earlier premises → (p : Premise) → In p premises → (n : List ℕ) (wanted : Sort → Bool) → In (a_name n wanted) (uses_of p)
    → (sort : Sort) × (sort_in (earlier ++ premises) n ≡ Some sort) × (wanted sort ≡ true)
used_after earlier [] h p at n wanted use_ = absurd at
used_after earlier (o ∷ premises) h p (inl is) n wanted use_ =
    let known : use_cause earlier (a_name n wanted) ≡ None = each_use earlier (uses_of o) h.0.known (a_name n wanted) (subst (λ z. In (a_name n wanted) (uses_of z)) (sym is) use_) in
    let (sort, declared, as_wanted) = wanted_sort earlier n wanted known in
    (sort, sort-more n sort earlier (o ∷ premises) declared, as_wanted)
used_after earlier (o ∷ premises) h p (inr at) n wanted use_ =
    subst (λ l. (sort : Sort) × (sort_in l n ≡ Some sort) × (wanted sort ≡ true)) (append_assoc earlier (o ∷ []) premises) (used_after (earlier ++ o ∷ []) premises h.1 p at n wanted use_)

-- **A fact that a premise of a well-named list uses has a class.**
pub fact_known : (premises : List Premise) → IsWellNamed premises → (p : Premise) → In p premises → (fact : List ℕ) → In (fact_use fact) (uses_of p) → IsSome (class_in premises fact)
fact_known premises h p at fact use_ =
    let (sort, declared, as_fact) = used_after [] premises h p at fact is_fact use_ in
    fact-class fact premises (declared ∙ ap Some (only_fact sort as_fact))

-- a fact that a premise sets against another is declared
pub rival_known : (s : Standing) → IsWellNamed s.premises → (f x : List ℕ) → are_rivals s f x ≡ true → IsSome (class_in s.premises x)
rival_known s named f x rival =
    let (p, at, says) = list_any-In (says_against f x) s.premises (both (not (same_name f x)) (list_any (says_against f x) s.premises) rival).1 in
    by p at says
  where
    by : (p : Premise) → In p s.premises → says_against f x p ≡ true → IsSome (class_in s.premises x)
    by (Class name facts) at says = cc
    by (Kind name) at says = cc
    by (Point name) at says = cc
    by (Event name kind) at says = cc
    by (Token name fact) at says = cc
    by (Span name fact) at says = cc
    by (Dist name from to lo hi) at says = cc
    by (Rule name trigger lo hi effect given unless_facts) at says = cc
    by (Protect name fact from to) at says = cc
    by (Against name one other) at says = elim (or_cases (same_name one f && same_name other x) (same_name one x && same_name other f) says) [
      | inl h ↦ (
          let is : other ≡ x = (bytes_decides other x).0 (both (same_name one f) (same_name other x) h).1 in
          subst (λ z. IsSome (class_in s.premises z)) is (fact_known s.premises named (Against name one other) at other (inr (inl refl))))
      | inr h ↦ (
          let is : one ≡ x = (bytes_decides one x).0 (both (same_name one x) (same_name other f) h).0 in
          subst (λ z. IsSome (class_in s.premises z)) is (fact_known s.premises named (Against name one other) at one (inl refl)))
    ]

-- a premise of a sound list is well formed
pub premise_formed : (s : Standing) → IsSound s → (p : Premise) → In p s.premises → IsWellFormedPremise p
premise_formed s sound p at = All-contains IsWellFormedPremise s.premises p sound.well_formed (Contains-from_In s.premises p at)
