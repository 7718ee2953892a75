-- What names are declared as, and which names an edit uses.
use Rattle.std.specs.Prelude.{ℕ, Bool, true, false, ◌||◌, List, [], ◌∷◌, ◌++◌, map, codes, Option, Some, None}
use Rattle.std.specs.List.{flat_map, list_any}
use Rattle.std.specs.Map.{lookup}
use Rattle.tmm_model.specs.declared.point.PointName.{PointName}
use Rattle.tmm_model.specs.declared.premise.Premise.{Premise}
use Rattle.tmm_model.specs.declared.premise.Premise.TheVariants.{Class, Kind, Point, Event, Token, Span, Dist, Rule, Protect, Against}
use Rattle.tmm_model.specs.Points.{same_name}

-- what a name is declared as
pub data Sort : Type 0 where
  a_class : Sort
  a_fact : Sort
  a_kind : Sort
  a_point : Sort
  an_event : Sort
  a_token : Sort
  a_span : Sort
  a_dist : Sort
  a_rule : Sort
  a_protection : Sort
  a_rivalry : Sort

-- no line may declare these
abbrev pub is_reserved : List ℕ → Bool
is_reserved word = same_name word (codes "start") || same_name word (codes "if") || same_name word (codes "unless")

-- a fact of a class that is declared
abbrev pub fact_declaration : List ℕ → List ℕ × Sort
fact_declaration fact = (fact, a_fact)

-- the names that a premise declares, from the left: its own, and a class its facts
abbrev pub declarations_of : Premise → List (List ℕ × Sort)
declarations_of (Class name facts) = (name, a_class) ∷ map fact_declaration facts.items
declarations_of (Kind name) = (name, a_kind) ∷ []
declarations_of (Point name) = (name, a_point) ∷ []
declarations_of (Event name kind) = (name, an_event) ∷ []
declarations_of (Token name fact) = (name, a_token) ∷ []
declarations_of (Span name fact) = (name, a_span) ∷ []
declarations_of (Dist name from to lo hi) = (name, a_dist) ∷ []
declarations_of (Rule name trigger lo hi effect given unless_facts) = (name, a_rule) ∷ []
declarations_of (Protect name fact from to) = (name, a_protection) ∷ []
declarations_of (Against name one other) = (name, a_rivalry) ∷ []

-- the names alone
abbrev pub declared_by : Premise → List (List ℕ)
declared_by premise = map (λ d. d.0) (declarations_of premise)

-- all that the premises declare, in order
abbrev pub declarations_in : List Premise → List (List ℕ × Sort)
declarations_in premises = flat_map declarations_of premises

-- what a name is declared as, none where it is not declared
abbrev pub sort_in : List Premise → List ℕ → Option Sort
sort_in premises name = lookup (same_name name) (declarations_in premises)

-- a fact is wanted
abbrev pub is_fact : Sort → Bool
is_fact a_fact = true
is_fact _ = false

-- a kind is wanted
abbrev pub is_kind : Sort → Bool
is_kind a_kind = true
is_kind _ = false

-- what a rule may bring about
abbrev pub is_effect : Sort → Bool
is_effect a_fact = true
is_effect a_kind = true
is_effect _ = false

-- what begins at a point
abbrev pub is_place : Sort → Bool
is_place a_point = true
is_place an_event = true
is_place a_token = true
is_place a_span = true
is_place _ = false

-- what a premise declares for itself
abbrev pub is_premise : Sort → Bool
is_premise a_fact = false
is_premise _ = true

-- a word that an edit uses, and what is wanted there
pub data Use : Type 0 where
  a_name : List ℕ → (Sort → Bool) → Use
  a_place : PointName → Use
  a_premise : List ℕ → Use

-- a word for which a fact is wanted
abbrev pub fact_use : List ℕ → Use
fact_use fact = a_name fact is_fact

-- the words that a premise uses and does not declare, from the left
abbrev pub uses_of : Premise → List Use
uses_of (Class name facts) = []
uses_of (Kind name) = []
uses_of (Point name) = []
uses_of (Event name kind) = a_name kind is_kind ∷ []
uses_of (Token name fact) = fact_use fact ∷ []
uses_of (Span name fact) = fact_use fact ∷ []
uses_of (Dist name from to lo hi) = a_place from ∷ a_place to ∷ []
uses_of (Rule name trigger lo hi effect given unless_facts) = a_name trigger is_kind ∷ a_name effect is_effect ∷ map fact_use (given.items ++ unless_facts.items)
uses_of (Protect name fact from to) = fact_use fact ∷ a_place from ∷ a_place to ∷ []
uses_of (Against name one other) = fact_use one ∷ fact_use other ∷ []

-- the class that declares the fact
abbrev pub class_in : List Premise → List ℕ → Option (List ℕ)
class_in [] fact = None
class_in (Class name facts ∷ premises) fact = elim (list_any (same_name fact) facts.items) [ true ↦ Some name | false ↦ class_in premises fact ]
class_in (_ ∷ premises) fact = class_in premises fact
