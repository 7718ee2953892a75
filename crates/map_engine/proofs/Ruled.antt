-- Of which kinds an edit may change the rules, and that the rules on all others stay.
use Rattle.std.proofs.Common.{◌≡◌, ◌∙◌, ℕ, true, false, List, [], ◌∷◌, ◌++◌, refl, sym, ap, subst, inl}
use Rattle.std.specs.Prelude.{Option, Some, None, is_some}
use Rattle.std.specs.List.{Contains, filter_map, cons_option}
use Rattle.tmm_model.specs.declared.premise.Edit.{Edit}
use Rattle.tmm_model.specs.declared.premise.Edit.TheVariants.{Add, Erase, Horizon, Upgrade}
use Rattle.tmm_model.specs.declared.premise.Premise.{Premise}
use Rattle.tmm_model.specs.declared.premise.Premise.TheVariants.{Class, Kind, Point, Event, Token, Span, Dist, Rule, Protect, Against}
use Rattle.tmm_model.specs.Beliefs.{on_kind, rules_at, rules_on}
use Rattle.tmm_model.specs.Edits.{next_list}
use Rattle.tmm_model.specs.Standing.{Standing, name_of}
use Rattle.list_theory.specs.WellNamed.{IsWellNamed}
use Rattle.list_theory.proofs.Elements.{In, In-right, Contains-from_In, filter_map-In}
use Rattle.belief_theory.proofs.Sound.{named_rule}
use Rattle.dist_net.specs.Net.{Net}
use Rattle.spots.specs.Forest.{Forest, IsLive, moment_at}
use Rattle.spots.specs.OfLists.{IsForestOf}
use Rattle.spots.proofs.Nodes.{live_at}
use Rattle.supports.proofs.OnKinds.{rules_of_event}
use Rattle.revisions.specs.Ruling.{is_rule, is_ruling}
use Rattle.revisions.proofs.Ruling.{unruled_edit}
use Rattle.map_engine.specs.Ruled.{changes_rules_on, HasRuled}

-- ---- the rules on a kind

none_there : {X : Type 0} (o : Option X) → is_some o ≡ false → o ≡ None
none_there None e = refl
none_there (Some x) e = cc

rules_push : (kind : List ℕ) (ps : List Premise) (p : Premise) → on_kind kind p ≡ None → filter_map (on_kind kind) (ps ++ p ∷ []) ≡ filter_map (on_kind kind) ps
rules_push kind [] p none = ap (λ o. cons_option o []) none
rules_push kind (q ∷ ps) p none = ap (cons_option (on_kind kind q)) (rules_push kind ps p none)

-- **Where the edit does not change which rules are on a kind, the same stand on it, in the same
-- order.**
pub same_rules_on : (s : Standing) (edit : Edit) → IsWellNamed s.premises → (kind : List ℕ) → changes_rules_on s.premises edit kind ≡ false → rules_on (next_list s edit) kind ≡ rules_on s kind
same_rules_on s (Add p) named kind e = rules_push kind s.premises p (none_there (on_kind kind p) e)
same_rules_on s (Erase name) named kind e = unruled_edit s (Erase name) named e kind
same_rules_on s (Horizon n) named kind e = unruled_edit s (Horizon n) named e kind
same_rules_on s Upgrade named kind e = unruled_edit s Upgrade named e kind

-- ---- one premise

-- what is on a kind is a rule
on_rule : (kind : List ℕ) (p : Premise) → is_some (on_kind kind p) ≡ true → is_rule p ≡ true
on_rule kind (Class name facts) e = e
on_rule kind (Kind name) e = e
on_rule kind (Point name) e = e
on_rule kind (Event name kind_) e = e
on_rule kind (Token name fact) e = e
on_rule kind (Span name fact) e = e
on_rule kind (Dist name from to lo hi) e = e
on_rule kind (Rule name trigger lo hi effect given unless_facts) e = refl
on_rule kind (Protect name fact from to) e = e
on_rule kind (Against name one other) e = e

some_there : {X : Type 0} (o : Option X) → is_some o ≡ true → (x : X) × (o ≡ Some x)
some_there None e = cc
some_there (Some x) e = (x, refl)

-- ---- which nodes are needed

module _ (f : Forest) (premises : List Premise) where
  -- none where the edit changes no rules
  pub none_ruled : (edit : Edit) (numbers : List ℕ) → is_ruling premises edit ≡ false → HasRuled f premises edit numbers
  none_ruled (Add p) numbers unruled kind changes = (let never : false ≡ true = sym unruled ∙ on_rule kind p changes in absurd (cc))
  none_ruled (Erase name) numbers unruled kind changes = (let never : false ≡ true = sym unruled ∙ changes in absurd (cc))
  none_ruled (Horizon n) numbers unruled kind changes = (let never : false ≡ true = sym unruled ∙ changes in absurd (cc))
  none_ruled Upgrade numbers unruled kind changes = (let never : false ≡ true = sym unruled ∙ changes in absurd (cc))

  -- all are enough
  pub all_ruled : (edit : Edit) (numbers : List ℕ) → ((x : ℕ) → IsLive f x → Contains numbers x) → HasRuled f premises edit numbers
  all_ruled edit numbers all kind changes x event = (let (m, at, _, _) = event in all x (live_at f x m at))

-- where it adds a rule, the events at which that stands
pub added_ruled : (s : Standing) (net : Net) (f : Forest) (p : Premise) (numbers : List ℕ) → IsForestOf (next_list s (Add p)) net f
    → ((x : ℕ) → IsLive f x → Contains (rules_at (next_list s (Add p)) (moment_at f x)) (name_of p) → Contains numbers x) → HasRuled f s.premises (Add p) numbers
added_ruled s net f p numbers seen has kind changes x (m, at, event, what) =
    let new = next_list s (Add p) in
    let (r, on) = some_there (on_kind kind p) changes in
    let there = filter_map-In (on_kind kind) new.premises p r (In-right s.premises (p ∷ []) p (inl refl)) on in
    let own = subst (λ (n : List ℕ). In n (rules_on new kind)) (sym (named_rule kind p r on)) there in
    let rules_are = rules_of_event new net f seen x m at event ∙ ap (rules_on new) what in
    has x (live_at f x m at) (subst (λ (l : List (List ℕ)). Contains l (name_of p)) (sym rules_are) (Contains-from_In (rules_on new kind) (name_of p) own))
