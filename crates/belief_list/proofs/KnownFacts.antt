-- The fact of a token that occurs is declared.
use Rattle.std.proofs.Common.{◌≡◌, ℕ, true, List, [], refl, sym, subst, inl, inr}
use Rattle.std.specs.Prelude.{Option, Some, None, IsSome}
use Rattle.tmm_model.specs.declared.point.PointName.TheVariants.{Start, Begin, End}
use Rattle.tmm_model.specs.declared.premise.Premise.{Premise}
use Rattle.tmm_model.specs.declared.premise.Premise.TheVariants.{Class, Kind, Point, Event, Token, Span, Dist, Rule, Protect, Against}
use Rattle.tmm_model.specs.declared.token.Shape.{Shape}
use Rattle.tmm_model.specs.declared.token.Shape.TheVariants.{Event as AnEvent, Persistence as APersistence, Span as ASpan}
use Rattle.tmm_model.specs.declared.token.TokenRow.{TokenRow}
use Rattle.tmm_model.specs.Beliefs.{as_root, as_effect, is_of, root_of, roots, token_at, token_of, on_kind}
use Rattle.tmm_model.specs.Moments.{Moment, At, After, as_rule}
use Rattle.tmm_model.specs.Sorts.{Sort, a_class, a_fact, a_kind, a_point, an_event, a_token, a_span, a_dist, a_rule, a_protection, a_rivalry, is_effect, sort_in, class_in}
use Rattle.tmm_model.specs.Standing.{Standing, premise_in}
use Rattle.list_theory.specs.WellNamed.{IsSound}
use Rattle.list_theory.proofs.Elements.{In, In-from_Contains, In-filter_map}
use Rattle.list_theory.proofs.KnownNames.{found}
use Rattle.belief_theory.specs.Right.{Occurs}
use Rattle.belief_theory.proofs.Rivals.{known_class}
use Rattle.belief_theory.proofs.Sound.{rule_stands}
use Rattle.premise_list.proofs.Facts.{used_after, fact_known, fact-class}
use Rattle.revisions.proofs.Tokens.{root_named}

module _ (s : Standing) (sound : IsSound s) where
  -- the class of what is no event is declared
  abbrev IsClassed : Option (Shape × List ℕ) → Type 0
  IsClassed (Some (APersistence, f)) = IsSome (class_in s.premises f)
  IsClassed (Some (ASpan, f)) = IsSome (class_in s.premises f)
  IsClassed _ = Unit {0}

  root_classed : (p : Premise) → In p s.premises → IsClassed (as_root (Some p))
  root_classed (Event name kind) at = tt
  root_classed (Token name fact) at = fact_known s.premises sound.well_named (Token name fact) at fact (inl refl)
  root_classed (Span name fact) at = fact_known s.premises sound.well_named (Span name fact) at fact (inl refl)
  root_classed (Class name facts) at = tt
  root_classed (Kind name) at = tt
  root_classed (Point name) at = tt
  root_classed (Dist name from to lo hi) at = tt
  root_classed (Rule name trigger lo hi effect given unless_facts) at = tt
  root_classed (Protect name fact from to) at = tt
  root_classed (Against name one other) at = tt

  effect_classed : (x : List ℕ) (sort : Sort) → sort_in s.premises x ≡ Some sort → is_effect sort ≡ true → IsClassed (Some (as_effect x (Some sort)))
  effect_classed x a_fact e i = fact-class x s.premises e
  effect_classed x a_kind e i = tt
  effect_classed x a_class e i = cc
  effect_classed x a_point e i = cc
  effect_classed x an_event e i = cc
  effect_classed x a_token e i = cc
  effect_classed x a_span e i = cc
  effect_classed x a_dist e i = cc
  effect_classed x a_rule e i = cc
  effect_classed x a_protection e i = cc
  effect_classed x a_rivalry e i = cc

  rule_classed : (p : Premise) → In p s.premises → (kind r : List ℕ) → on_kind kind p ≡ Some r → IsClassed (Some (as_effect (as_rule (Some p)).effect (sort_in s.premises (as_rule (Some p)).effect)))
  rule_classed (Rule name trigger lo hi x given unless_facts) at kind r is =
      let (sort, here, may) = used_after [] s.premises sound.well_named (Rule name trigger lo hi x given unless_facts) at x is_effect (inr (inl refl)) in
      subst (λ o. IsClassed (Some (as_effect x o))) (sym here) (effect_classed x sort here may)
  rule_classed (Class name facts) at kind r is = cc
  rule_classed (Kind name) at kind r is = cc
  rule_classed (Point name) at kind r is = cc
  rule_classed (Event name kind_) at kind r is = cc
  rule_classed (Token name fact) at kind r is = cc
  rule_classed (Span name fact) at kind r is = cc
  rule_classed (Dist name from to lo hi) at kind r is = cc
  rule_classed (Protect name fact from to) at kind r is = cc
  rule_classed (Against name one other) at kind r is = cc

  occurs_classed : (x : Moment) → Occurs s x → IsClassed (is_of s x)
  occurs_classed (At Start) h = tt
  occurs_classed (At (End k)) h = tt
  occurs_classed (At (Begin k)) h =
      let (p, at, e) = In-filter_map root_of s.premises (At (Begin k)) (In-from_Contains (roots s) (At (Begin k)) h) in
      let here : premise_in s.premises k ≡ Some p = subst (λ n. premise_in s.premises n ≡ Some p) (root_named p k e) (found s.premises sound.well_named p at) in
      subst (λ o. IsClassed (as_root o)) (sym here) (root_classed p at)
  occurs_classed (After u r) h =
      let (p, at, named, kind, is) = rule_stands s u r h.1 in
      let here : premise_in s.premises r ≡ Some p = subst (λ n. premise_in s.premises n ≡ Some p) named (found s.premises sound.well_named p at) in
      subst (λ o. IsClassed (Some (as_effect (as_rule o).effect (sort_in s.premises (as_rule o).effect)))) (sym here) (rule_classed p at kind r is)

  abbrev IsDeclared : Option (TokenRow Moment) → Type 0
  IsDeclared None = Unit {0}
  IsDeclared (Some k) = class_in s.premises k.fact ≡ Some k.class

  -- **The class of a token declares its fact.**
  pub token_classed : (x : Moment) → Occurs s x → (k : TokenRow Moment) → token_of s x ≡ Some k → class_in s.premises k.fact ≡ Some k.class
  token_classed x h k is = by (is_of s x) (occurs_classed x h) is
    where
      by : (o : Option (Shape × List ℕ)) → IsClassed o → elim o as (λ _. Option (TokenRow Moment)) [ None ↦ None | Some y ↦ token_at s x y ] ≡ Some k → class_in s.premises k.fact ≡ Some k.class
      by None known e = cc
      by (Some (AnEvent, f)) known e = cc
      by (Some (APersistence, f)) known e = subst IsDeclared e (known_class s f known)
      by (Some (ASpan, f)) known e = subst IsDeclared e (known_class s f known)
