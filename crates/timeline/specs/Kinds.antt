-- The standing rules by the kind that triggers them, and by their places in the list.
use Rattle.std.specs.Prelude.{◌≡◌, ℕ, List, [], ◌∷◌, ◌++◌, map, Some, slice_get}
use Rattle.std.specs.List.{All, filter_map}
use Rattle.std.specs.Option.{option_map_or}
use Rattle.tmm_model.specs.declared.premise.Premise.{Premise}
use Rattle.tmm_model.specs.declared.premise.Premise.TheVariants.{Rule}
use Rattle.tmm_model.specs.Beliefs.{on_kind, rules_on}
use Rattle.tmm_model.specs.Moments.{rule_of}
use Rattle.tmm_model.specs.Standing.{Standing, name_of}
use Rattle.name_lists.specs.Lists.{list_of}
use Rattle.timeline.specs.declared.kinds.RulesByKind.{RulesByKind}
use Rattle.timeline.specs.declared.rule.RuleText.{RuleText}

-- the name of the premise at the place, empty where there is none
abbrev pub name_at : Standing → ℕ → List ℕ
name_at s place = option_map_or name_of (slice_get s.premises place) []

-- the premise is a rule
abbrev pub IsRule : Premise → Type 0
IsRule (Rule name trigger lo hi effect given unless_facts) = Unit {0}
IsRule _ = ⊥

-- a rule stands at the place
abbrev pub IsRuleAt : Standing → ℕ → Type 0
IsRuleAt s place = (p : Premise) × (slice_get s.premises place ≡ Some p) × IsRule p

-- where the premise is a rule, its place stands behind the others of its kind, and all else stays
abbrev pub AddsPremise : RulesByKind → RulesByKind → Premise → ℕ → Type 0
AddsPremise old new premise place = (kind : List ℕ) → list_of new.rules kind ≡ list_of old.rules kind ++ map (λ name. place) (filter_map (on_kind kind) (premise ∷ []))

-- under each kind stand the places of the standing rules on it
pub record AreRules (s : Standing) (m : RulesByKind) : Type 0 where
  pub named : (kind : List ℕ) → map (name_at s) (list_of m.rules kind) ≡ rules_on s kind
  pub places : (kind : List ℕ) → All (IsRuleAt s) (list_of m.rules kind)

-- this is what the rule of this name says
pub record SaysRule (s : Standing) (r : List ℕ) (text : RuleText) : Type 0 where
  pub name : text.name ≡ r
  pub lo : text.lo ≡ (rule_of s r).lo
  pub effect : text.effect ≡ (rule_of s r).effect
  pub given : text.given.now ≡ (rule_of s r).given
  pub exceptions : text.exceptions.now ≡ (rule_of s r).exceptions
