use Rattle.std.proofs.Common.{◌≡◌, ◌∙◌, ℕ, true, false, List, [], ◌∷◌, length, refl, sym, ap, subst, rules, arith}
use Rattle.std.specs.Prelude.{Option, Some, None, IfSome, is_some}
use Rattle.std.specs.Option.{option_map_or}
use Rattle.tmm_model.specs.Beliefs.{rules_on}
use Rattle.tmm_model.specs.Standing.{Standing}
use Rattle.name_lists.specs.Lists.{list_of}
use Rattle.projection.specs.declared.kinds.RulesByKind.{RulesByKind}
use Rattle.projection.specs.Kinds.{AreRules, AreRulesOn, IsCountIn}
use Rattle.projection.proofs.known.KnownKinds.ask.Goals as goal

when_known : (s : Standing) (kind : List ℕ) (o : Option RulesByKind) → is_some o ≡ true → IfSome o (AreRules s) → AreRulesOn s kind (option_map_or (λ (m : RulesByKind). list_of m.rules kind) o [])
when_known s kind (Some m) e are = record { named = are.named kind; rules = are.places kind }
when_known s kind None e are = cc

none_of : {X : Type 0} (xs : List X) → length xs ≡ 0 → xs ≡ []
none_of [] e = refl
none_of (x ∷ xs) e = absurd (omega (arith, e))

when_none : (s : Standing) (kind : List ℕ) (o : Option RulesByKind) → is_some o ≡ false → rules_on s kind ≡ [] → AreRulesOn s kind (option_map_or (λ (m : RulesByKind). list_of m.rules kind) o [])
when_none s kind None e none = record { named = sym none; rules = λ i d lt. absurd (omega (arith, lt)) }
when_none s kind (Some m) e none = cc

pub returns-then-is_some-clause-told : goal.returns-then-is_some-clause-told
returns-then-is_some-clause-told c = λ told.
    when_known c.args.standing.now.present c.args.kind c.args.self.now.rules (sym c.is_some.ensures ∙ c.if-is_some.true) c.requires.known.rules

pub returns-then-known-eq0-clause-told : goal.returns-then-known-eq0-clause-told
returns-then-known-eq0-clause-told c = λ told.
    let s = c.args.standing.now.present in
    let is : IfSome (Some c.in-Some.known) (IsCountIn s) = subst (λ o. IfSome o (IsCountIn s)) c.in-Some.is c.requires.known.last in
    let same : c.in-Some.known.kind ≡ c.args.kind = search rules in
    let zero : c.in-Some.known.count ≡ 0 = search rules in
    when_none s c.args.kind c.args.self.now.rules (sym c.is_some.ensures ∙ c.if-is_some.false) (ap (rules_on s) (sym same) ∙ none_of (rules_on s c.in-Some.known.kind) (sym is.count ∙ zero))
