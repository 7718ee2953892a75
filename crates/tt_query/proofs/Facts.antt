-- What declared names are, in a well-named list: facts have a class, and events, tokens and spans
-- are roots.
use Rattle.std.proofs.Common.{◌≡◌, ◌∙◌, ℕ, Bool, true, false, sym, ap, subst, refl, inl, inr, cond}
use Rattle.std.specs.Prelude.{Option, Some, None, IsSome, List, [], ◌∷◌, ◌++◌, codes}
use Rattle.std.specs.List.{Contains, list_any}
use Rattle.std.specs.Map.{lookup}
use Rattle.std.specs.Option.{option_or}
use Rattle.std.specs.Cmp.Lexicographic.{nat_list_eq_equiv}
use Rattle.std.proofs.lemmas.Bool.{or_parts}
use Rattle.std.proofs.lemmas.Grind.{flat_map-append}
use Rattle.std.proofs.lemmas.List.Folds.{list_any-append}
use Rattle.tmm_model.specs.declared.point.PointName.TheVariants.{Begin}
use Rattle.tmm_model.specs.declared.premise.Premise.{Premise}
use Rattle.tmm_model.specs.declared.premise.Premise.TheVariants.{Class, Kind, Point, Event, Token, Span, Dist, Rule, Protect, Against}
use Rattle.tmm_model.specs.Beliefs.{roots, root_of}
use Rattle.tmm_model.specs.Moments.{At}
use Rattle.tmm_model.specs.Points.{same_name}
use Rattle.tmm_model.specs.Questions.{is_root}
use Rattle.tmm_model.specs.Sorts.{Sort, a_class, a_fact, a_kind, a_point, an_event, a_token, a_span, a_dist, a_rule, a_protection, a_rivalry, is_fact, is_place, declarations_of, declarations_in, declared_by, fact_declaration, sort_in, class_in, fact_use}
use Rattle.tmm_model.specs.Standing.{Standing, name_of}
use Rattle.tmm_model.specs.Verdicts.{Cause, ill_sorted, unknown, words_known, name_cause, use_cause}
use Rattle.list_theory.specs.WellNamed.{Follows, AllFollow, IsWellNamed}
use Rattle.list_theory.proofs.Elements.{In, In-from_Contains, Contains-from_In, In-filter_map, filter_map-In, In-flat_map, In-map}
use Rattle.list_theory.proofs.KnownNames.{own_new}
use Rattle.walk_theory.proofs.Points.{same_name-is}
use Rattle.premise_list.proofs.Facts.{fact-class}
use Rattle.list_theory.proofs.WellNamed.{lookup-append, lookup-unknown, words_known-push}

-- ---- look-ups

lookup-In : {K X : Type 0} (test : K → Bool) (ds : List (K × X)) (x : X) → lookup test ds ≡ Some x → (k : K) × In (k, x) ds × (test k ≡ true)
lookup-In test [] x e = cc
lookup-In {K} {X} test (d ∷ ds) x e = by (test d.0) refl (lookup-In test ds x) e
  where
    by : (b : Bool) → test d.0 ≡ b → (lookup test ds ≡ Some x → (k : K) × In (k, x) ds × (test k ≡ true)) → cond b (Some d.1) (lookup test ds) ≡ Some x → (k : K) × In (k, x) (d ∷ ds) × (test k ≡ true)
    by true is again e = let same : d.1 ≡ x = cc in (d.0, inl (λ i. (d.0, same i)), is)
    by false is again e = let (k, at, passes) = again e in (k, inr at, passes)

-- ---- facts

only : (d : List ℕ × Sort) (name : List ℕ) (sort : Sort) → In (name, sort) (d ∷ []) → (d.0 ≡ name) × (d.1 ≡ sort)
only d name sort (inl e) = (ap (λ x. x.0) e, ap (λ x. x.1) e)
only d name sort (inr at) = absurd at

a_fact_is : (o : Option Sort) (word : List ℕ) → name_cause o word is_fact ≡ None → o ≡ Some a_fact
a_fact_is None word e = by (same_name word (codes "start")) e
  where
    by : (b : Bool) → elim b as (λ _. Option Cause) [ true ↦ Some (ill_sorted word) | false ↦ Some (unknown word) ] ≡ None → None ≡ Some a_fact
    by true e = cc
    by false e = cc
a_fact_is (Some a_fact) word e = refl
a_fact_is (Some a_class) word e = cc
a_fact_is (Some a_kind) word e = cc
a_fact_is (Some a_point) word e = cc
a_fact_is (Some an_event) word e = cc
a_fact_is (Some a_token) word e = cc
a_fact_is (Some a_span) word e = cc
a_fact_is (Some a_dist) word e = cc
a_fact_is (Some a_rule) word e = cc
a_fact_is (Some a_protection) word e = cc
a_fact_is (Some a_rivalry) word e = cc

-- **A fact that may be named is one of a class**, in the list and in each that goes on from it.
pub fact_known : (before after : List Premise) (fact : List ℕ) → use_cause before (fact_use fact) ≡ None → IsSome (class_in (before ++ after) fact)
fact_known before after fact e =
    fact-class fact (before ++ after)
    (ap (lookup (same_name fact)) (flat_map-append declarations_of before after)
    ∙ lookup-append (same_name fact) (declarations_in before) (declarations_in after)
    ∙ ap (λ o. option_or o (lookup (same_name fact) (declarations_in after))) (a_fact_is (sort_in before fact) fact e))

-- ---- roots

-- what is declared as an event, a token or a span is a root
root_here : (p : Premise) (name : List ℕ) (sort : Sort) → In (name, sort) (declarations_of p) → is_root sort ≡ true → root_of p ≡ Some (At (Begin name))
root_here (Event k kind) name sort at e = ap (λ n. Some (At (Begin n))) (only (k, an_event) name sort at).0
root_here (Token k g) name sort at e = ap (λ n. Some (At (Begin n))) (only (k, a_token) name sort at).0
root_here (Span k g) name sort at e = ap (λ n. Some (At (Begin n))) (only (k, a_span) name sort at).0
root_here (Kind k) name sort at e = let w : false ≡ true = ap is_root (only (k, a_kind) name sort at).1 ∙ e in cc
root_here (Point k) name sort at e = let w : false ≡ true = ap is_root (only (k, a_point) name sort at).1 ∙ e in cc
root_here (Dist k from to lo hi) name sort at e = let w : false ≡ true = ap is_root (only (k, a_dist) name sort at).1 ∙ e in cc
root_here (Rule k trigger lo hi effect given unless_facts) name sort at e = let w : false ≡ true = ap is_root (only (k, a_rule) name sort at).1 ∙ e in cc
root_here (Protect k g from to) name sort at e = let w : false ≡ true = ap is_root (only (k, a_protection) name sort at).1 ∙ e in cc
root_here (Against k one other) name sort at e = let w : false ≡ true = ap is_root (only (k, a_rivalry) name sort at).1 ∙ e in cc
root_here (Class k facts) name sort (inl q) e = let w : false ≡ true = ap (λ d. is_root d.1) q ∙ e in cc
root_here (Class k facts) name sort (inr at) e =
    let (g, there, q) = In-map fact_declaration facts.items (name, sort) at in
    let w : false ≡ true = ap (λ d. is_root d.1) q ∙ e in
    cc

pub root_of_sort : (s : Standing) (name : List ℕ) (sort : Sort) → sort_in s.premises name ≡ Some sort → is_root sort ≡ true → Contains (roots s) (At (Begin name))
root_of_sort s name sort is e =
    let (word, at, same) = lookup-In (same_name name) (declarations_in s.premises) sort is in
    let (p, there, here) = In-flat_map declarations_of s.premises (word, sort) at in
    subst (λ w. Contains (roots s) (At (Begin w))) (sym (same_name-is name word same))
    (Contains-from_In (roots s) (At (Begin word)) (filter_map-In root_of s.premises p (At (Begin word)) there (root_here p word sort here e)))

-- the premise declares its own name first, as this
abbrev IsOwnSort : Premise → Sort → Type 0
IsOwnSort p sort = (rest : List (List ℕ × Sort)) × (declarations_of p ≡ (name_of p, sort) ∷ rest)

sort_of_root : (p : Premise) (name : List ℕ) → root_of p ≡ Some (At (Begin name)) → (sort : Sort) × IsOwnSort p sort × (is_root sort ≡ true) × (name_of p ≡ name)
sort_of_root (Event k kind) name e = (an_event, ([], refl), refl, cc)
sort_of_root (Token k g) name e = (a_token, ([], refl), refl, cc)
sort_of_root (Span k g) name e = (a_span, ([], refl), refl, cc)
sort_of_root (Kind k) name e = cc
sort_of_root (Point k) name e = cc
sort_of_root (Dist k from to lo hi) name e = cc
sort_of_root (Rule k trigger lo hi effect given unless_facts) name e = cc
sort_of_root (Protect k g from to) name e = cc
sort_of_root (Against k one other) name e = cc
sort_of_root (Class k facts) name e = cc

-- the own name of a premise is not known before it
not_before : (earlier ps : List Premise) → AllFollow earlier ps → (p : Premise) (sort : Sort) → IsOwnSort p sort → In p ps → list_any (same_name (name_of p)) (words_known earlier) ≡ false
not_before earlier [] h p sort own at = absurd at
not_before earlier (o ∷ ps) h p sort own (inl e) = own_new earlier p (subst (Follows earlier) e h.0)
not_before earlier (o ∷ ps) h p sort own (inr at) =
    (or_parts (list_any (same_name (name_of p)) (words_known earlier)) (list_any (same_name (name_of p)) (declared_by o))
    (sym (list_any-append (same_name (name_of p)) (words_known earlier) (declared_by o)) ∙ ap (list_any (same_name (name_of p))) (sym (words_known-push earlier o)) ∙ not_before (earlier ++ o ∷ []) ps h.1 p sort own at)).0

-- **A premise of a well-named list gives its name its sort.**
own_sort_after : (earlier ps : List Premise) → AllFollow earlier ps → (p : Premise) (sort : Sort) → IsOwnSort p sort → In p ps → sort_in ps (name_of p) ≡ Some sort
own_sort_after earlier [] h p sort own at = absurd at
own_sort_after earlier (o ∷ ps) h p sort (rest, own) (inl e) =
    ap (λ ds. lookup (same_name (name_of p)) (ds ++ declarations_in ps)) (ap declarations_of e ∙ own)
    ∙ by (same_name (name_of p) (name_of p)) (nat_list_eq_equiv.refl (name_of p))
  where
    by : (b : Bool) → b ≡ true → cond b (Some sort) (lookup (same_name (name_of p)) (rest ++ declarations_in ps)) ≡ Some sort
    by true e = refl
    by false e = cc
own_sort_after earlier (o ∷ ps) h p sort own (inr at) =
    let unknown_here : list_any (same_name (name_of p)) (declared_by o) ≡ false =
    (or_parts (list_any (same_name (name_of p)) (words_known earlier)) (list_any (same_name (name_of p)) (declared_by o))
    (sym (list_any-append (same_name (name_of p)) (words_known earlier) (declared_by o)) ∙ ap (list_any (same_name (name_of p))) (sym (words_known-push earlier o)) ∙ not_before (earlier ++ o ∷ []) ps h.1 p sort own at)).1 in
    lookup-append (same_name (name_of p)) (declarations_of o) (declarations_in ps)
    ∙ ap (λ x. option_or x (lookup (same_name (name_of p)) (declarations_in ps))) (lookup-unknown (same_name (name_of p)) (declarations_of o) unknown_here)
    ∙ own_sort_after (earlier ++ o ∷ []) ps h.1 p sort own at

pub sort_of_root_in : (s : Standing) → IsWellNamed s.premises → (name : List ℕ) → Contains (roots s) (At (Begin name)) → (sort : Sort) × (sort_in s.premises name ≡ Some sort) × (is_root sort ≡ true)
sort_of_root_in s named name at =
    let (p, there, e) = In-filter_map root_of s.premises (At (Begin name)) (In-from_Contains (roots s) (At (Begin name)) at) in
    let (sort, own, root, is) = sort_of_root p name e in
    (sort, subst (λ n. sort_in s.premises n ≡ Some sort) is (own_sort_after [] s.premises named p sort own there), root)

-- ---- causes

-- a place that is no root is a point
pub a_plain_point : (o : Option Sort) (word : List ℕ) → name_cause o word is_place ≡ None → ((sort : Sort) → o ≡ Some sort → is_root sort ≡ true → ⊥) → name_cause o word is_root ≡ Some (ill_sorted word)
a_plain_point None word e other = by (same_name word (codes "start")) e
  where
    by : (b : Bool) → elim b as (λ _. Option Cause) [ true ↦ Some (ill_sorted word) | false ↦ Some (unknown word) ] ≡ None → elim b as (λ _. Option Cause) [ true ↦ Some (ill_sorted word) | false ↦ Some (unknown word) ] ≡ Some (ill_sorted word)
    by true e = refl
    by false e = cc
a_plain_point (Some a_point) word e other = refl
a_plain_point (Some an_event) word e other = absurd (other an_event refl refl)
a_plain_point (Some a_token) word e other = absurd (other a_token refl refl)
a_plain_point (Some a_span) word e other = absurd (other a_span refl refl)
a_plain_point (Some a_class) word e other = refl
a_plain_point (Some a_fact) word e other = refl
a_plain_point (Some a_kind) word e other = refl
a_plain_point (Some a_dist) word e other = refl
a_plain_point (Some a_rule) word e other = refl
a_plain_point (Some a_protection) word e other = refl
a_plain_point (Some a_rivalry) word e other = refl

pub a_root_is_known : (sort : Sort) (word : List ℕ) → is_root sort ≡ true → name_cause (Some sort) word is_root ≡ None
a_root_is_known an_event word e = refl
a_root_is_known a_token word e = refl
a_root_is_known a_span word e = refl
a_root_is_known a_point word e = cc
a_root_is_known a_class word e = cc
a_root_is_known a_fact word e = cc
a_root_is_known a_kind word e = cc
a_root_is_known a_dist word e = cc
a_root_is_known a_rule word e = cc
a_root_is_known a_protection word e = cc
a_root_is_known a_rivalry word e = cc
