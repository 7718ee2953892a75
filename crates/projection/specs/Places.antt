-- Standing rules by their places in the list.
use Rattle.std.specs.Prelude.{◌≡◌, ℕ, List, [], Some, slice_get}
use Rattle.std.specs.Option.{option_map_or}
use Rattle.tmm_model.specs.declared.premise.Premise.{Premise}
use Rattle.tmm_model.specs.Standing.{Standing, name_of}
use Rattle.spots.specs.Rules.{IsRule}
use Rattle.projection.specs.declared.pending.Pending.{Pending}

-- the name of the premise at the place, empty where there is none
abbrev pub name_at : Standing → ℕ → List ℕ
name_at s place = option_map_or name_of (slice_get s.premises place) []

-- a rule stands at the place
abbrev pub IsRuleAt : Standing → ℕ → Type 0
IsRuleAt s place = (p : Premise) × (slice_get s.premises place ≡ Some p) × IsRule p

-- the name of the rule that waits
abbrev pub rule_at : Standing → Pending → List ℕ
rule_at s p = name_at s p.rule
