-- The standing rules by the kind that triggers them.
use Rattle.std.specs.Prelude.{◌≡◌, ◌≤◌, ℕ, List, [], ◌∷◌, ◌++◌, map, length, None, IfSome}
use Rattle.std.specs.List.{All, filter_map}
use Rattle.std.specs.Option.{option_map_or}
use Rattle.tmm_model.specs.declared.premise.Premise.{Premise}
use Rattle.tmm_model.specs.Beliefs.{on_kind, rules_on}
use Rattle.tmm_model.specs.Standing.{Standing}
use Rattle.name_lists.specs.Lists.{list_of}
use Rattle.projection.specs.declared.kinds.RulesByKind.{RulesByKind}
use Rattle.projection.specs.declared.known.KnownKinds.{KnownKinds}
use Rattle.projection.specs.declared.weight.KindCount.{KindCount}
use Rattle.projection.specs.Places.{name_at, IsRuleAt}

-- where the premise is a rule, its place stands behind the others of its kind, and all else stays
abbrev pub AddsPremise : RulesByKind → RulesByKind → Premise → ℕ → Type 0
AddsPremise old new premise place = (kind : List ℕ) → list_of new.rules kind ≡ list_of old.rules kind ++ map (λ name. place) (filter_map (on_kind kind) (premise ∷ []))

-- under each kind stand the places of the standing rules on it
pub record AreRules (s : Standing) (m : RulesByKind) : Type 0 where
  pub named : (kind : List ℕ) → map (name_at s) (list_of m.rules kind) ≡ rules_on s kind
  pub places : (kind : List ℕ) → All (IsRuleAt s) (list_of m.rules kind)

-- so many standing rules are on the kind
pub record IsCountIn (s : Standing) (c : KindCount) : Type 0 where
  pub count : c.count ≡ length (rules_on s c.kind)
  pub few : c.count ≤ 2000

-- these are the places of the rules on the kind
pub record AreRulesOn (s : Standing) (kind : List ℕ) (places : List ℕ) : Type 0 where
  pub named : map (name_at s) places ≡ rules_on s kind
  pub rules : All (IsRuleAt s) places

-- what is known of kinds is so
pub record AreKnown (s : Standing) (k : KnownKinds) : Type 0 where
  pub last : IfSome k.last (IsCountIn s)
  pub rules : IfSome k.rules (AreRules s)

-- nothing was asked yet
abbrev pub IsUnasked : KnownKinds → Type 0
IsUnasked k = (k.last ≡ None) × (k.rules ≡ None)

-- the places of the rules on the kind, none where they are not known
abbrev pub places_in : KnownKinds → List ℕ → List ℕ
places_in k kind = option_map_or (λ m. list_of m.rules kind) k.rules []
