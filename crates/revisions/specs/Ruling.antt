-- Which edits may change what rules stand on a kind.
use Rattle.std.specs.Prelude.{◌≡◌, ℕ, Bool, true, false, List}
use Rattle.std.specs.Option.{option_map_or}
use Rattle.tmm_model.specs.declared.premise.Edit.{Edit}
use Rattle.tmm_model.specs.declared.premise.Edit.TheVariants.{Add, Erase, Horizon, Upgrade}
use Rattle.tmm_model.specs.declared.premise.Premise.{Premise}
use Rattle.tmm_model.specs.declared.premise.Premise.TheVariants.{Class, Kind, Rule}
use Rattle.tmm_model.specs.Beliefs.{rules_on}
use Rattle.tmm_model.specs.Edits.{next_list}
use Rattle.tmm_model.specs.Standing.{Standing, premise_in}
use Rattle.list_theory.specs.WellNamed.{IsWellNamed}

-- whether the premise is a rule
abbrev pub is_rule : Premise → Bool
is_rule (Rule name trigger lo hi effect given unless_facts) = true
is_rule _ = false

-- Whether a rule may fall with the premise: with a rule it does itself, and with a kind or a class
-- all rules that mention the kind or a fact of the class. A rule mentions nothing else.
abbrev pub may_rule : Premise → Bool
may_rule (Rule name trigger lo hi effect given unless_facts) = true
may_rule (Kind name) = true
may_rule (Class name facts) = true
may_rule _ = false

-- whether the edit adds a rule, or erases a standing premise with which a rule may fall; a horizon
-- and a version do neither
abbrev pub is_ruling : List Premise → Edit → Bool
is_ruling premises (Add premise) = is_rule premise
is_ruling premises (Erase name) = option_map_or may_rule (premise_in premises name) false
is_ruling premises (Horizon n) = false
is_ruling premises Upgrade = false

-- **After any other edit the same rules stand on each kind, in the same order.**
abbrev pub UnruledEditsKeepRules : Type 0
UnruledEditsKeepRules =
    (s : Standing) (edit : Edit) → IsWellNamed s.premises → is_ruling s.premises edit ≡ false
    → (kind : List ℕ) → rules_on (next_list s edit) kind ≡ rules_on s kind
