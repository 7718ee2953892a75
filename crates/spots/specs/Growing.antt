-- How a tree of occurrences grows.
use Rattle.std.specs.Prelude.{◌≡◌, ◌≢◌, ℕ, ◌<◌, List, length, Option, Some, None}
use Rattle.std.specs.List.{Contains}
use Rattle.tmm_model.specs.declared.premise.Premise.{Premise}
use Rattle.tmm_model.specs.declared.token.Shape.{Shape}
use Rattle.tmm_model.specs.declared.token.Shape.TheVariants.{Event, Persistence}
use Rattle.tmm_model.specs.Beliefs.{root_of, rules_at}
use Rattle.tmm_model.specs.Moments.{Moment, After}
use Rattle.tmm_model.specs.Standing.{Standing}
use Rattle.net_theory.specs.Represents.{Names}
use Rattle.spots.specs.Forest.{Forest, Member, member, Enters, moment, moment_at}
use Rattle.spots.specs.OfLists.{IsMemberOf}

-- the occurrence k of the list enters as the node x
pub record Adds (s : Standing) (names : Names) (old new : Forest) (x : ℕ) (k : Moment) : Type 0 where
  pub node : Member
  pub enters : Enters old new x node
  pub own : IsMemberOf s names node
  pub is : moment node ≡ k

-- what a premise declares to occur enters; where it declares nothing, the tree stays
abbrev pub AddsRootAt : Standing → Names → Option Moment → Forest → Forest → Option ℕ → Type 0
AddsRootAt s names (Some k) old new (Some x) = Adds s names old new x k
AddsRootAt s names None old new None = new ≡ old
AddsRootAt s names _ old new _ = ⊥

-- what this premise declares to occur enters
abbrev pub AddsRoot : Standing → Names → Premise → Forest → Forest → Option ℕ → Type 0
AddsRoot s names premise = AddsRootAt s names (root_of premise)

-- ---- effects

-- a rule brings about a persistence of a fact, and an event of a kind
abbrev pub effect_shape : Option (List ℕ) → Shape
effect_shape (Some class) = Persistence
effect_shape None = Event

-- there is room for what the rule leads to from the event, and it has not entered
pub record MayEnter (s : Standing) (f : Forest) (x : ℕ) (rule : List ℕ) : Type 0 where
  pub stands : Contains (rules_at s (moment_at f x)) rule
  pub room : (m : Member) → member f x ≡ Some m → length m.links < 100000
  pub new : (y : ℕ) (m : Member) → member f y ≡ Some m → moment m ≢ After (moment_at f x) rule
