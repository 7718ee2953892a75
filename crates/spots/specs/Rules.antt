-- Standing rules.
use Rattle.std.specs.Prelude.{◌≡◌, ℕ, List, Some}
use Rattle.tmm_model.specs.declared.premise.Premise.{Premise}
use Rattle.tmm_model.specs.declared.premise.Premise.TheVariants.{Rule}
use Rattle.tmm_model.specs.Standing.{Standing, premise_in}

-- the premise is a rule
abbrev pub IsRule : Premise → Type 0
IsRule (Rule name trigger lo hi effect given unless_facts) = Unit {0}
IsRule _ = ⊥

-- the premise of this name is a rule
abbrev pub IsRuleOf : Standing → List ℕ → Type 0
IsRuleOf s r = (p : Premise) × (premise_in s.premises r ≡ Some p) × IsRule p
