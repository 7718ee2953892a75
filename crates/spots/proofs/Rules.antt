-- The rules that stand at an event, and the facts that they read.
use Rattle.std.proofs.Common.{◌≡◌, ℕ, List, ◌++◌, sym, subst, inr}
use Rattle.std.specs.Prelude.{Some, IsSome}
use Rattle.std.specs.List.{All, Contains}
use Rattle.std.proofs.lemmas.List.Elements.{All-contains}
use Rattle.tmm_model.specs.declared.premise.Premise.{Premise}
use Rattle.tmm_model.specs.declared.premise.Premise.TheVariants.{Class, Kind, Point, Event, Token, Span, Dist, Rule, Protect, Against}
use Rattle.tmm_model.specs.Beliefs.{rules_at, on_kind}
use Rattle.tmm_model.specs.Moments.{Moment, as_rule, read_by, rule_of}
use Rattle.list_theory.specs.WellNamed.{IsSound}
use Rattle.tmm_model.specs.Sorts.{class_in, fact_use}
use Rattle.tmm_model.specs.Standing.{Standing, premise_in}
use Rattle.list_theory.proofs.Elements.{In, In-left, In-right, In-from_Contains, Contains-from_In, map-In}
use Rattle.list_theory.proofs.KnownNames.{found, finds}
use Rattle.walk_theory.proofs.Members.{All-from_contains}
use Rattle.belief_theory.proofs.Sound.{rule_stands}
use Rattle.spots.specs.Rules.{IsRule, IsRuleOf}
use Rattle.premise_list.proofs.Facts.{fact_known}

rule_on : (p : Premise) (kind r : List ℕ) → on_kind kind p ≡ Some r → IsRule p
rule_on (Rule name trigger lo hi effect given unless_facts) kind r e = tt
rule_on (Class name facts) kind r e = cc
rule_on (Kind name) kind r e = cc
rule_on (Point name) kind r e = cc
rule_on (Event name kind_) kind r e = cc
rule_on (Token name fact) kind r e = cc
rule_on (Span name fact) kind r e = cc
rule_on (Dist name from to lo hi) kind r e = cc
rule_on (Protect name fact from to) kind r e = cc
rule_on (Against name one other) kind r e = cc

-- a rule that stands at a moment is a premise of the list
pub rule_there : (s : Standing) → IsSound s → (t : Moment) (r : List ℕ) → Contains (rules_at s t) r → IsRuleOf s r
rule_there s sound t r at =
    let (p, there, named, kind, is) = rule_stands s t r at in
    (p, subst (λ n. premise_in s.premises n ≡ Some p) named (found s.premises sound.well_named p there), rule_on p kind r is)

-- each fact that a rule reads has a class
pub read_known : (s : Standing) → IsSound s → (r : List ℕ) → IsRuleOf s r → All (λ fact. IsSome (class_in s.premises fact)) (read_by (rule_of s r))
read_known s sound r (p, there, is) = subst (λ o. All (λ fact. IsSome (class_in s.premises fact)) (read_by (as_rule o))) (sym there) (All-from_contains (λ fact. IsSome (class_in s.premises fact)) (read_by (as_rule (Some p)))
    (λ fact at. by p (finds s.premises r p there).0 fact (In-from_Contains (read_by (as_rule (Some p))) fact at)))
  where
    by : (p : Premise) → In p s.premises → (fact : List ℕ) → In fact (read_by (as_rule (Some p))) → IsSome (class_in s.premises fact)
    by (Rule name trigger lo hi effect given unless_facts) stands fact at = fact_known s.premises sound.well_named (Rule name trigger lo hi effect given unless_facts) stands fact (inr (inr (map-In fact_use (given.items ++ unless_facts.items) fact at)))
    by (Class name facts) stands fact at = absurd at
    by (Kind name) stands fact at = absurd at
    by (Point name) stands fact at = absurd at
    by (Event name kind) stands fact at = absurd at
    by (Token name fact_) stands fact at = absurd at
    by (Span name fact_) stands fact at = absurd at
    by (Dist name from to lo hi) stands fact at = absurd at
    by (Protect name fact_ from to) stands fact at = absurd at
    by (Against name one other) stands fact at = absurd at

-- the fact has a class in the list
abbrev IsKnown : Standing → List ℕ → Type 0
IsKnown s fact = IsSome (class_in s.premises fact)

-- so has each antecedent
pub facts_known : (s : Standing) → IsSound s → (r : List ℕ) → IsRuleOf s r → All (λ fact. IsSome (class_in s.premises fact)) (rule_of s r).given
facts_known s sound r is =
    let given = (rule_of s r).given in
    let exceptions = (rule_of s r).exceptions in
    All-from_contains (IsKnown s) given (λ fact at.
    All-contains (IsKnown s) (given ++ exceptions) fact (read_known s sound r is) (Contains-from_In (given ++ exceptions) fact (In-left given exceptions fact (In-from_Contains given fact at))))

-- and each exception
pub exceptions_known : (s : Standing) → IsSound s → (r : List ℕ) → IsRuleOf s r → All (λ fact. IsSome (class_in s.premises fact)) (rule_of s r).exceptions
exceptions_known s sound r is =
    let given = (rule_of s r).given in
    let exceptions = (rule_of s r).exceptions in
    All-from_contains (IsKnown s) exceptions (λ fact at.
    All-contains (IsKnown s) (given ++ exceptions) fact (read_known s sound r is) (Contains-from_In (given ++ exceptions) fact (In-right given exceptions fact (In-from_Contains exceptions fact at))))
