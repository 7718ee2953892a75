-- Which classes an edit touches besides, as premises say that their facts contradict others.
use Rattle.std.specs.Prelude.{◌≡◌, ◌⊎◌, ℕ, List, Some}
use Rattle.std.specs.List.{Contains}
use Rattle.tmm_model.specs.Sorts.{class_in}
use Rattle.tmm_model.specs.Standing.{Standing}
use Rattle.list_theory.proofs.Elements.{In}
use Rattle.premise_list.specs.Rivalries.{rivalries}
use Rattle.premise_list.specs.States.{States}

-- the class of the fact, if one declares it, is among these
abbrev pub HasClassOf : Standing → List ℕ → List (List ℕ) → Type 0
HasClassOf s f classes = (class : List ℕ) → class_in s.premises f ≡ Some class → Contains classes class

-- those of both facts are
abbrev pub HasClassesOf : Standing → List ℕ × List ℕ → List (List ℕ) → Type 0
HasClassesOf s pair classes = HasClassOf s pair.0 classes × HasClassOf s pair.1 classes

-- a class declares the fact that is none of these
abbrev pub IsOfOther : Standing → List ℕ → List (List ℕ) → Type 0
IsOfOther s f classes = (class : List ℕ) × (class_in s.premises f ≡ Some class) × (Contains classes class → ⊥)

-- the class of f is among those that were found, unless g is of no class that was touched
abbrev pub Follows : Standing → List (List ℕ) → List (List ℕ) → List ℕ → List ℕ → Type 0
Follows s touched found f g = IsOfOther s g touched ⊎ HasClassOf s f found

-- those of both facts of the pair are, unless the other one is
abbrev pub FollowsBoth : Standing → List (List ℕ) → List (List ℕ) → List ℕ × List ℕ → Type 0
FollowsBoth s touched found pair = Follows s touched found pair.0 pair.1 × Follows s touched found pair.1 pair.0

-- the pair of facts is among those of the other list, or the classes of both were found
abbrev pub IsThereOr : Standing → List (List ℕ) → List (List ℕ × List ℕ) → List ℕ × List ℕ → Type 0
IsThereOr s found pairs pair = In pair pairs ⊎ HasClassesOf s pair found

-- **Among these classes are those that were touched, those whose facts contradict one of a touched
-- class, and those of facts that contradict each other in one list alone.**
pub record TakesInRivals (lists : States) (touched found : List (List ℕ)) : Type 0 where
  pub own : (class : List ℕ) → Contains touched class → Contains found class
  pub gone : (pair : List ℕ × List ℕ) → In pair (rivalries lists.committed.premises) → IsThereOr lists.present found (rivalries lists.present.premises) pair
  pub come : (pair : List ℕ × List ℕ) → In pair (rivalries lists.present.premises) → IsThereOr lists.present found (rivalries lists.committed.premises) pair
  pub near : (pair : List ℕ × List ℕ) → In pair (rivalries lists.present.premises) → FollowsBoth lists.present touched found pair
