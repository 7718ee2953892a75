-- What occurs in two lists of which one has the other's premises is one token in both.
use Rattle.std.proofs.Common.{◌≡◌, ◌∙◌, ℕ, true, List, [], refl, sym, ap, subst, inl, inr}
use Rattle.std.specs.Prelude.{Option, Some, None, IsSome}
use Rattle.std.specs.List.{Contains}
use Rattle.std.proofs.lemmas.List.Elements.{All-contains}
use Rattle.tmm_model.specs.declared.point.PointName.TheVariants.{Start, Begin, End}
use Rattle.tmm_model.specs.declared.premise.Edit.{Edit}
use Rattle.tmm_model.specs.declared.premise.Premise.{Premise}
use Rattle.tmm_model.specs.declared.premise.Premise.TheVariants.{Class, Kind, Point, Event, Token, Span, Dist, Rule, Protect, Against}
use Rattle.tmm_model.specs.declared.token.Shape.{Shape}
use Rattle.tmm_model.specs.declared.token.Shape.TheVariants.{Event as AnEvent, Persistence as APersistence, Span as ASpan}
use Rattle.tmm_model.specs.declared.token.TokenRow.{TokenRow}
use Rattle.tmm_model.specs.Beliefs.{as_root, as_effect, is_of, root_of, roots, rules_at, class_of, token_at, token_of, end_of, on_kind}
use Rattle.tmm_model.specs.Edits.{next_list}
use Rattle.tmm_model.specs.Moments.{Moment, At, After, as_rule, read_by, rule_of}
use Rattle.belief_theory.specs.Right.{Occurs}
use Rattle.list_theory.specs.WellNamed.{IsSound}
use Rattle.tmm_model.specs.Sorts.{Sort, a_class, a_fact, a_kind, a_point, an_event, a_token, a_span, a_dist, a_rule, a_protection, a_rivalry, is_effect, sort_in, class_in}
use Rattle.tmm_model.specs.Standing.{Standing, name_of, premise_in}
use Rattle.belief_theory.proofs.NextLists.{AreWithin, one_way}
use Rattle.list_theory.proofs.Elements.{In, In-from_Contains, Contains-from_In, In-filter_map}
use Rattle.list_theory.proofs.KnownNames.{found}
use Rattle.belief_theory.proofs.Sound.{rule_stands}
use Rattle.premise_list.proofs.Facts.{used_after, fact_known, fact-class}
use Rattle.spots.proofs.Rules.{rule_there, read_known}
use Rattle.spots.specs.OfLists.{class_for}
use Rattle.revisions.specs.Maps.{TokensStay, ClassesStay}
use Rattle.revisions.proofs.Names.{sorts_within, classes_within}

-- a name of a class
class_named : (s : Standing) (f : List ℕ) → IsSome (class_in s.premises f) → (c : List ℕ) × (class_in s.premises f ≡ Some c)
class_named s f h = by (class_in s.premises f) refl h
  where
    by : (o : Option (List ℕ)) → class_in s.premises f ≡ o → IsSome o → (c : List ℕ) × (class_in s.premises f ≡ Some c)
    by None e h = cc
    by (Some c) e h = (c, e)

pub root_named : (p : Premise) (k : List ℕ) → root_of p ≡ Some (At (Begin k)) → name_of p ≡ k
root_named (Event name kind) k e = cc
root_named (Token name fact) k e = cc
root_named (Span name fact) k e = cc
root_named (Class name facts) k e = cc
root_named (Kind name) k e = cc
root_named (Point name) k e = cc
root_named (Dist name from to lo hi) k e = cc
root_named (Rule name trigger lo hi effect given unless_facts) k e = cc
root_named (Protect name fact from to) k e = cc
root_named (Against name one other) k e = cc

abbrev effect_in : Standing → Premise → Shape × List ℕ
effect_in z p = as_effect (as_rule (Some p)).effect (sort_in z.premises (as_rule (Some p)).effect)

module _ (s t : Standing) (sound_s : IsSound s) (sound_t : IsSound t) (within : AreWithin s.premises t.premises) where
  class_stays : (f : List ℕ) → IsSome (class_in s.premises f) → class_of s f ≡ class_of t f
  class_stays f h =
      let (c, is) = class_named s f h in
      let there = classes_within s.premises t.premises within sound_t.well_named f c is in
      ap (λ (o : Option (List ℕ)). elim o as (λ _. List ℕ) [ Some class ↦ class | None ↦ [] ]) (is ∙ sym there)

  -- the class of what is no event is declared
  abbrev IsClassed : Option (Shape × List ℕ) → Type 0
  IsClassed (Some (APersistence, f)) = IsSome (class_in s.premises f)
  IsClassed (Some (ASpan, f)) = IsSome (class_in s.premises f)
  IsClassed _ = Unit {0}

  root_classed : (p : Premise) → In p s.premises → IsClassed (as_root (Some p))
  root_classed (Event name kind) at = tt
  root_classed (Token name fact) at = fact_known s.premises sound_s.well_named (Token name fact) at fact (inl refl)
  root_classed (Span name fact) at = fact_known s.premises sound_s.well_named (Span name fact) at fact (inl refl)
  root_classed (Class name facts) at = tt
  root_classed (Kind name) at = tt
  root_classed (Point name) at = tt
  root_classed (Dist name from to lo hi) at = tt
  root_classed (Rule name trigger lo hi effect given unless_facts) at = tt
  root_classed (Protect name fact from to) at = tt
  root_classed (Against name one other) at = tt

  record Alike (x : Moment) : Type 0 where
    same : is_of s x ≡ is_of t x
    classed : IsClassed (is_of s x)

  alike : (x : Moment) → Occurs s x → Alike x
  alike (At Start) h = record { same = refl; classed = tt }
  alike (At (End k)) h = record { same = refl; classed = tt }
  alike (At (Begin k)) h =
      let (p, at, e) = In-filter_map root_of s.premises (At (Begin k)) (In-from_Contains (roots s) (At (Begin k)) h) in
      let named = root_named p k e in
      let one : premise_in s.premises k ≡ Some p = subst (λ n. premise_in s.premises n ≡ Some p) named (found s.premises sound_s.well_named p at) in
      let two : premise_in t.premises k ≡ Some p = subst (λ n. premise_in t.premises n ≡ Some p) named (found t.premises sound_t.well_named p (within p at)) in
      record { same = ap as_root (one ∙ sym two); classed = subst (λ o. IsClassed (as_root o)) (sym one) (root_classed p at) }
  alike (After u r) h =
      let (p, at, named, kind, is) = rule_stands s u r h.1 in
      let one : premise_in s.premises r ≡ Some p = subst (λ n. premise_in s.premises n ≡ Some p) named (found s.premises sound_s.well_named p at) in
      let two : premise_in t.premises r ≡ Some p = subst (λ n. premise_in t.premises n ≡ Some p) named (found t.premises sound_t.well_named p (within p at)) in
      let e = effect p at kind is in
      record {
        same = ap (λ o. Some (as_effect (as_rule o).effect (sort_in s.premises (as_rule o).effect))) one
            ∙ ap Some e.0
            ∙ ap (λ o. Some (as_effect (as_rule o).effect (sort_in t.premises (as_rule o).effect))) (sym two);
        classed = subst (λ o. IsClassed (Some (as_effect (as_rule o).effect (sort_in s.premises (as_rule o).effect)))) (sym one) e.1;
      }
    where
      declared : (x : List ℕ) (sort : Sort) → sort_in s.premises x ≡ Some sort → is_effect sort ≡ true → IsClassed (Some (as_effect x (Some sort)))
      declared x a_fact e i = fact-class x s.premises e
      declared x a_kind e i = tt
      declared x a_class e i = cc
      declared x a_point e i = cc
      declared x an_event e i = cc
      declared x a_token e i = cc
      declared x a_span e i = cc
      declared x a_dist e i = cc
      declared x a_rule e i = cc
      declared x a_protection e i = cc
      declared x a_rivalry e i = cc

      effect : (p : Premise) → In p s.premises → (kind : List ℕ) → on_kind kind p ≡ Some r → (effect_in s p ≡ effect_in t p) × IsClassed (Some (effect_in s p))
      effect (Rule name trigger lo hi x given unless_facts) at kind is =
          let (sort, here, may) = used_after [] s.premises sound_s.well_named (Rule name trigger lo hi x given unless_facts) at x is_effect (inr (inl refl)) in
          let there = sorts_within s.premises t.premises within sound_t.well_named x sort here in (
            ap (as_effect x) (here ∙ sym there),
            subst (λ o. IsClassed (Some (as_effect x o))) (sym here) (declared x sort here may),
          )
      effect (Class name facts) at kind is = cc
      effect (Kind name) at kind is = cc
      effect (Point name) at kind is = cc
      effect (Event name kind_) at kind is = cc
      effect (Token name fact) at kind is = cc
      effect (Span name fact) at kind is = cc
      effect (Dist name from to lo hi) at kind is = cc
      effect (Protect name fact from to) at kind is = cc
      effect (Against name one other) at kind is = cc

  token_stays : (x : Moment) → Occurs s x → token_of s x ≡ token_of t x
  token_stays x h = let a = alike x h in by (is_of s x) refl a.classed ∙ ap (λ o. elim o as (λ _. Option (TokenRow Moment)) [ None ↦ None | Some y ↦ token_at t x y ]) a.same
    where
      by : (o : Option (Shape × List ℕ)) → is_of s x ≡ o → IsClassed o
          → (elim (is_of s x) as (λ _. Option (TokenRow Moment)) [ None ↦ None | Some y ↦ token_at s x y ]) ≡ (elim (is_of s x) as (λ _. Option (TokenRow Moment)) [ None ↦ None | Some y ↦ token_at t x y ])
      by o e h = ap (λ o. elim o as (λ _. Option (TokenRow Moment)) [ None ↦ None | Some y ↦ token_at s x y ]) e ∙ here o h ∙ ap (λ o. elim o as (λ _. Option (TokenRow Moment)) [ None ↦ None | Some y ↦ token_at t x y ]) (sym e)
        where
          here : (o : Option (Shape × List ℕ)) → IsClassed o → (elim o as (λ _. Option (TokenRow Moment)) [ None ↦ None | Some y ↦ token_at s x y ]) ≡ (elim o as (λ _. Option (TokenRow Moment)) [ None ↦ None | Some y ↦ token_at t x y ])
          here None h = refl
          here (Some (AnEvent, f)) h = refl
          here (Some (APersistence, f)) h = ap (λ c. Some (record { spot = x; end = None; fact = f; class = c })) (class_stays f h)
          here (Some (ASpan, f)) h = ap (λ c. Some (record { spot = x; end = Some (end_of x); fact = f; class = c })) (class_stays f h)

  -- the shape and the class of a node
  class_for_alike : (x : Moment) → Occurs s x → (shape : Shape) (what : List ℕ) → is_of s x ≡ Some (shape, what) → class_for s shape what ≡ class_for t shape what
  class_for_alike x h shape what is = by shape (subst IsClassed is (alike x h).classed)
    where
      by : (shape : Shape) → IsClassed (Some (shape, what)) → class_for s shape what ≡ class_for t shape what
      by AnEvent g = refl
      by APersistence g = ap Some (class_stays what g)
      by ASpan g = ap Some (class_stays what g)

  given_stays : (u : Moment) (r f : List ℕ) → Contains (rules_at s u) r → In f (read_by (rule_of s r)) → class_of s f ≡ class_of t f
  given_stays u r f stands at =
      class_stays f (All-contains (λ fact. IsSome (class_in s.premises fact)) (read_by (rule_of s r)) f (read_known s sound_s r (rule_there s sound_s u r stands)) (Contains-from_In (read_by (rule_of s r)) f at))

pub tokens_stay : (old : Standing) (edit : Edit) → IsSound old → IsSound (next_list old edit) → TokensStay old (next_list old edit)
tokens_stay old edit sound_old sound_new x before now =
    elim (one_way old edit) [
      | inl more ↦ token_stays old (next_list old edit) sound_old sound_new more x before
      | inr fewer ↦ sym (token_stays (next_list old edit) old sound_new sound_old fewer x now)
    ]

pub classes_stay : (old : Standing) (edit : Edit) → IsSound old → IsSound (next_list old edit) → ClassesStay old (next_list old edit)
classes_stay old edit sound_old sound_new u r f before now at_old at_new =
    elim (one_way old edit) [
      | inl more ↦ given_stays old (next_list old edit) sound_old sound_new more u r f before at_old
      | inr fewer ↦ sym (given_stays (next_list old edit) old sound_new sound_old fewer u r f now at_new)
    ]

pub is_of_stays : (old : Standing) (edit : Edit) → IsSound old → IsSound (next_list old edit) → (x : Moment) → Occurs old x → Occurs (next_list old edit) x → is_of old x ≡ is_of (next_list old edit) x
is_of_stays old edit sound_old sound_new x before now =
    elim (one_way old edit) [
      | inl more ↦ (alike old (next_list old edit) sound_old sound_new more x before).same
      | inr fewer ↦ sym (alike (next_list old edit) old sound_new sound_old fewer x now).same
    ]

pub class_for_stays : (old : Standing) (edit : Edit) → IsSound old → IsSound (next_list old edit) → (x : Moment) → Occurs old x → Occurs (next_list old edit) x
    → (shape : Shape) (what : List ℕ) → is_of old x ≡ Some (shape, what) → class_for old shape what ≡ class_for (next_list old edit) shape what
class_for_stays old edit sound_old sound_new x before now shape what is =
    elim (one_way old edit) [
      | inl more ↦ class_for_alike old (next_list old edit) sound_old sound_new more x before shape what is
      | inr fewer ↦ sym (class_for_alike (next_list old edit) old sound_new sound_old fewer x now shape what (sym (is_of_stays old edit sound_old sound_new x before now) ∙ is))
    ]
