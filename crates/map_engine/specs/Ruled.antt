-- Of which kinds an edit may change the rules.
use Rattle.std.specs.Prelude.{◌≡◌, ℕ, Bool, true, List, Some, is_some}
use Rattle.std.specs.List.{Contains}
use Rattle.tmm_model.specs.declared.premise.Edit.{Edit}
use Rattle.tmm_model.specs.declared.premise.Edit.TheVariants.{Add}
use Rattle.tmm_model.specs.declared.premise.Premise.{Premise}
use Rattle.tmm_model.specs.declared.token.Shape.TheVariants.{Event}
use Rattle.tmm_model.specs.Beliefs.{on_kind}
use Rattle.spots.specs.Forest.{Forest, Member, member}
use Rattle.revisions.specs.Ruling.{is_ruling}

-- Whether the edit may change which rules are on the kind. A rule that it adds is on one kind; but
-- where a rule may fall with what it erases, that may be a rule on any kind.
abbrev pub changes_rules_on : List Premise → Edit → List ℕ → Bool
changes_rules_on premises (Add premise) kind = is_some (on_kind kind premise)
changes_rules_on premises edit kind = is_ruling premises edit

-- the number is of an event of this kind
abbrev pub IsEventOf : Forest → List ℕ → ℕ → Type 0
IsEventOf f kind x = (m : Member) × (member f x ≡ Some m) × (m.shape ≡ Event) × (m.what ≡ kind)

-- among the numbers is each event of this kind
abbrev pub HasEventsOf : Forest → List ℕ → List ℕ → Type 0
HasEventsOf f kind numbers = (x : ℕ) → IsEventOf f kind x → Contains numbers x

-- **Among the numbers is each event of a kind of which the edit may change the rules.** No other
-- node counts more or fewer rules.
abbrev pub HasRuled : Forest → List Premise → Edit → List ℕ → Type 0
HasRuled f premises edit numbers = (kind : List ℕ) → changes_rules_on premises edit kind ≡ true → HasEventsOf f kind numbers
