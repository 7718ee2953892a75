-- An edit with which no rule comes or falls leaves the rules on each kind.
use Rattle.std.proofs.Common.{◌≡◌, ◌∙◌, ℕ, Bool, true, false, List, [], ◌∷◌, ◌++◌, refl, sym, ap, subst, inl, inr}
use Rattle.std.specs.Prelude.{Some, None}
use Rattle.std.specs.List.{filter_map, cons_option}
use Rattle.std.specs.Option.{option_map_or}
use Rattle.std.specs.Cmp.Lexicographic.{bytes_decides}
use Rattle.tmm_model.specs.declared.premise.Edit.{Edit}
use Rattle.tmm_model.specs.declared.premise.Edit.TheVariants.{Add, Erase, Horizon, Upgrade}
use Rattle.tmm_model.specs.declared.premise.Premise.{Premise}
use Rattle.tmm_model.specs.declared.premise.Premise.TheVariants.{Class, Kind, Point, Event, Token, Span, Dist, Rule, Protect, Against}
use Rattle.tmm_model.specs.Beliefs.{on_kind, rules_on}
use Rattle.tmm_model.specs.Edits.{next_list}
use Rattle.tmm_model.specs.Erasure.{falls, kept_after}
use Rattle.tmm_model.specs.Points.{same_name}
use Rattle.tmm_model.specs.Sorts.{Sort, a_class, a_fact, a_kind, a_point, an_event, a_token, a_span, a_dist, a_rule, a_protection, a_rivalry, is_fact, is_kind, is_effect, declarations_of, declared_by, fact_use}
use Rattle.tmm_model.specs.Standing.{Standing, name_of, premise_in}
use Rattle.list_theory.specs.WellNamed.{Follows, AllFollow, IsWellNamed}
use Rattle.list_theory.proofs.Elements.{In, In-map}
use Rattle.list_theory.proofs.Erasure.{kept_after-falls, kept_after-stays}
use Rattle.list_theory.proofs.KnownNames.{found}
use Rattle.revisions.proofs.Unasked.{RefusesEach, AreDeclared, still_declared, more_declared, declares_alone, falls_alone}
use Rattle.revisions.specs.Ruling.{is_rule, may_rule, is_ruling}

-- ---- one premise

-- only a rule is on a kind
no_rule_on : (kind : List ℕ) (p : Premise) → is_rule p ≡ false → on_kind kind p ≡ None
no_rule_on kind (Class name facts) e = refl
no_rule_on kind (Kind name) e = refl
no_rule_on kind (Point name) e = refl
no_rule_on kind (Event name kind_) e = refl
no_rule_on kind (Token name fact) e = refl
no_rule_on kind (Span name fact) e = refl
no_rule_on kind (Dist name from to lo hi) e = refl
no_rule_on kind (Rule name trigger lo hi effect given unless_facts) e = cc
no_rule_on kind (Protect name fact from to) e = refl
no_rule_on kind (Against name one other) e = refl

-- with a rule it falls itself
no_rule_itself : (p : Premise) → may_rule p ≡ false → is_rule p ≡ false
no_rule_itself (Class name facts) e = refl
no_rule_itself (Kind name) e = refl
no_rule_itself (Point name) e = refl
no_rule_itself (Event name kind) e = refl
no_rule_itself (Token name fact) e = refl
no_rule_itself (Span name fact) e = refl
no_rule_itself (Dist name from to lo hi) e = refl
no_rule_itself (Rule name trigger lo hi effect given unless_facts) e = cc
no_rule_itself (Protect name fact from to) e = refl
no_rule_itself (Against name one other) e = refl

rules_push : (kind : List ℕ) (ps : List Premise) (p : Premise) → is_rule p ≡ false → filter_map (on_kind kind) (ps ++ p ∷ []) ≡ filter_map (on_kind kind) ps
rules_push kind [] p e = ap (λ o. cons_option o []) (no_rule_on kind p e)
rules_push kind (q ∷ ps) p e = ap (cons_option (on_kind kind q)) (rules_push kind ps p e)

rules_past : (kind : List ℕ) (p : Premise) (ps : List Premise) → is_rule p ≡ false → filter_map (on_kind kind) (p ∷ ps) ≡ filter_map (on_kind kind) ps
rules_past kind p ps e = ap (λ o. cons_option o (filter_map (on_kind kind) ps)) (no_rule_on kind p e)

-- ---- what a rule mentions

no_fact : (sort : Sort) → is_effect sort ≡ false → is_fact sort ≡ false
no_fact a_fact e = cc
no_fact a_class e = refl
no_fact a_kind e = refl
no_fact a_point e = refl
no_fact an_event e = refl
no_fact a_token e = refl
no_fact a_span e = refl
no_fact a_dist e = refl
no_fact a_rule e = refl
no_fact a_protection e = refl
no_fact a_rivalry e = refl

no_kind : (sort : Sort) → is_effect sort ≡ false → is_kind sort ≡ false
no_kind a_kind e = cc
no_kind a_class e = refl
no_kind a_fact e = refl
no_kind a_point e = refl
no_kind an_event e = refl
no_kind a_token e = refl
no_kind a_span e = refl
no_kind a_dist e = refl
no_kind a_rule e = refl
no_kind a_protection e = refl
no_kind a_rivalry e = refl

-- no kind and no fact
abbrev NoEffect : Sort → Type 0
NoEffect sort = is_effect sort ≡ false

-- a rule asks for kinds and facts
asks_effect : (p : Premise) → may_rule p ≡ true → RefusesEach NoEffect p
asks_effect (Class name facts) e u at = absurd at
asks_effect (Kind name) e u at = absurd at
asks_effect (Point name) e u at = cc
asks_effect (Event name kind) e u at = cc
asks_effect (Token name fact) e u at = cc
asks_effect (Span name fact) e u at = cc
asks_effect (Dist name from to lo hi) e u at = cc
asks_effect (Protect name fact from to) e u at = cc
asks_effect (Against name one other) e u at = cc
asks_effect (Rule name trigger lo hi effect given unless_facts) e u (inl is) = record { word = trigger; wanted = is_kind; is = is; refuses = no_kind }
asks_effect (Rule name trigger lo hi effect given unless_facts) e u (inr (inl is)) = record { word = effect; wanted = is_effect; is = is; refuses = λ sort none. none }
asks_effect (Rule name trigger lo hi effect given unless_facts) e u (inr (inr at)) =
    let (fact, _, is) = In-map fact_use (given.items ++ unless_facts.items) u at in
    record { word = fact; wanted = is_fact; is = is; refuses = no_fact }

-- what a premise declares with which no rule falls
declares_other : (earlier : List Premise) (p : Premise) → may_rule p ≡ false → Follows earlier p → AreDeclared NoEffect (earlier ++ p ∷ []) (declared_by p)
declares_other earlier p e follows = by p e refl
  where
    by : (q : Premise) → may_rule q ≡ false → p ≡ q → AreDeclared NoEffect (earlier ++ p ∷ []) (declared_by p)
    by (Point name) e is = declares_alone NoEffect earlier p follows name a_point (ap declarations_of is) (ap name_of is) refl
    by (Event name kind) e is = declares_alone NoEffect earlier p follows name an_event (ap declarations_of is) (ap name_of is) refl
    by (Token name fact) e is = declares_alone NoEffect earlier p follows name a_token (ap declarations_of is) (ap name_of is) refl
    by (Span name fact) e is = declares_alone NoEffect earlier p follows name a_span (ap declarations_of is) (ap name_of is) refl
    by (Dist name from to lo hi) e is = declares_alone NoEffect earlier p follows name a_dist (ap declarations_of is) (ap name_of is) refl
    by (Protect name fact from to) e is = declares_alone NoEffect earlier p follows name a_protection (ap declarations_of is) (ap name_of is) refl
    by (Against name one other) e is = declares_alone NoEffect earlier p follows name a_rivalry (ap declarations_of is) (ap name_of is) refl
    by (Class name facts) e is = cc
    by (Kind name) e is = cc
    by (Rule name trigger lo hi effect given unless_facts) e is = cc

-- ---- an erasure

falls_other : (erased : List ℕ) (earlier : List Premise) (gone : List (List ℕ)) → AreDeclared NoEffect earlier gone → (p : Premise) → Follows earlier p
    → (same_name erased (name_of p) ≡ true → may_rule p ≡ false) → falls erased gone p ≡ true → may_rule p ≡ false
falls_other erased earlier gone other p follows own e = by (may_rule p) refl
  where
    by : (b : Bool) → may_rule p ≡ b → may_rule p ≡ false
    by false h = h
    by true h = own (falls_alone NoEffect erased earlier gone other p follows (asks_effect p h) e)

-- the premise of this name, if it is one of these, is one with which no rule falls
abbrev TakesNoRule : List ℕ → List Premise → Type 0
TakesNoRule erased ps = (p : Premise) → In p ps → same_name erased (name_of p) ≡ true → may_rule p ≡ false

module _ (kind erased : List ℕ) where
  rules_kept : (earlier : List Premise) (gone : List (List ℕ)) (ps : List Premise) → AllFollow earlier ps → AreDeclared NoEffect earlier gone → TakesNoRule erased ps
      → filter_map (on_kind kind) (kept_after erased gone ps) ≡ filter_map (on_kind kind) ps
  rules_kept earlier gone [] follow other own = refl
  rules_kept earlier gone (p ∷ ps) follow other own =
      by (rules_kept (earlier ++ p ∷ []) (declared_by p ++ gone) ps follow.1) (rules_kept (earlier ++ p ∷ []) gone ps follow.1) (falls erased gone p) refl
    where
      rest : TakesNoRule erased ps
      rest q at = own q (inr at)

      by : (AreDeclared NoEffect (earlier ++ p ∷ []) (declared_by p ++ gone) → TakesNoRule erased ps → filter_map (on_kind kind) (kept_after erased (declared_by p ++ gone) ps) ≡ filter_map (on_kind kind) ps)
          → (AreDeclared NoEffect (earlier ++ p ∷ []) gone → TakesNoRule erased ps → filter_map (on_kind kind) (kept_after erased gone ps) ≡ filter_map (on_kind kind) ps)
          → (b : Bool) → falls erased gone p ≡ b → filter_map (on_kind kind) (kept_after erased gone (p ∷ ps)) ≡ filter_map (on_kind kind) (p ∷ ps)
      by one two true e =
          let none : may_rule p ≡ false = falls_other erased earlier gone other p follow.0 (own p (inl refl)) e in
          ap (filter_map (on_kind kind)) (kept_after-falls erased gone p ps e)
          ∙ one (more_declared NoEffect (earlier ++ p ∷ []) (declared_by p) gone (declares_other earlier p none follow.0) (still_declared NoEffect earlier gone p other)) rest
          ∙ sym (rules_past kind p ps (no_rule_itself p none))
      by one two false e =
          ap (filter_map (on_kind kind)) (kept_after-stays erased gone p ps e) ∙ ap (cons_option (on_kind kind p)) (two (still_declared NoEffect earlier gone p other) rest)

-- ---- an edit

erased_takes_no_rule : (ps : List Premise) → IsWellNamed ps → (name : List ℕ) → is_ruling ps (Erase name) ≡ false → TakesNoRule name ps
erased_takes_no_rule ps named name e p at same =
    let here : premise_in ps name ≡ Some p = subst (λ n. premise_in ps n ≡ Some p) (sym ((bytes_decides name (name_of p)).0 same)) (found ps named p at) in
    ap (λ o. option_map_or may_rule o false) (sym here) ∙ e

-- **An edit with which no rule comes or falls leaves the rules on each kind.**
pub unruled_edit : (s : Standing) (edit : Edit) → IsWellNamed s.premises → is_ruling s.premises edit ≡ false → (kind : List ℕ) → rules_on (next_list s edit) kind ≡ rules_on s kind
unruled_edit s (Add p) named e kind = rules_push kind s.premises p e
unruled_edit s (Erase name) named e kind = rules_kept kind name [] [] s.premises named (λ w at. absurd at) (erased_takes_no_rule s.premises named name e)
unruled_edit s (Horizon n) named e kind = refl
unruled_edit s Upgrade named e kind = refl
