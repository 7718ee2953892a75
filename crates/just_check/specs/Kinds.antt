-- The standing rules by the kind that triggers them.
use Rattle.std.specs.Prelude.{◌≡◌, ℕ, List, [], ◌∷◌, ◌++◌}
use Rattle.std.specs.List.{filter_map}
use Rattle.tmm_model.specs.declared.premise.Premise.{Premise}
use Rattle.tmm_model.specs.Beliefs.{on_kind, rules_on}
use Rattle.tmm_model.specs.Standing.{Standing}
use Rattle.name_lists.specs.Lists.{list_of}
use Rattle.just_check.specs.declared.rules.RulesByKind.{RulesByKind}

-- under each kind stand the names of the standing rules on it
abbrev pub AreRules : Standing → RulesByKind → Type 0
AreRules s m = (kind : List ℕ) → list_of m.rules kind ≡ rules_on s kind

-- where the premise is a rule, its name stands behind the others of its kind, and all else stays
abbrev pub AddsPremise : RulesByKind → RulesByKind → Premise → Type 0
AddsPremise old new premise = (kind : List ℕ) → list_of new.rules kind ≡ list_of old.rules kind ++ filter_map (on_kind kind) (premise ∷ [])
