-- What nodes rest on.
use Rattle.std.specs.Prelude.{◌≡◌, ◌↔◌, ℕ, List, map, nat_eq, Option}
use Rattle.std.specs.List.{All, Contains, IsDistinct}
use Rattle.tmm_model.specs.declared.point.PointName.TheVariants.{Begin}
use Rattle.tmm_model.specs.Beliefs.{holder}
use Rattle.tmm_model.specs.Maps.{TimeMap}
use Rattle.tmm_model.specs.Moments.{Moment, At, After}
use Rattle.tmm_model.specs.Reasons.{Upholds, rests_on}
use Rattle.indexmap.specs.IndexSet.{insert_all}
use Rattle.spots.specs.Forest.{Forest, IsLive, moment_at}
use Rattle.justify.specs.declared.grounds.Origin.{Origin}
use Rattle.justify.specs.declared.grounds.Origin.TheVariants.{Declared, Effect}

-- a premise declares the node, or it is the effect of a rule on the event at another node
abbrev pub IsOrigin : Forest → ℕ → Origin → Type 0
IsOrigin f x (Declared name) = moment_at f x ≡ At (Begin name)
IsOrigin f x (Effect event rule) = IsLive f event × (moment_at f x ≡ After (moment_at f event) rule)

-- the first supporter at t of each of the facts
abbrev pub supporters_for : TimeMap → Moment → List (List ℕ) → List (Option Moment)
supporters_for m t facts = map (λ fact. holder m.list m.far m.believed fact t t) facts

-- the nodes are what x rests on directly
pub record AreGrounds (m : TimeMap) (f : Forest) (x : ℕ) (nodes : List ℕ) : Type 0 where
  pub live : All (IsLive f) nodes
  pub are : map (moment_at f) nodes ≡ rests_on m (moment_at f x)

-- what x rests on directly is now among the nodes, and nothing else is new
pub record AddsGrounds (m : TimeMap) (f : Forest) (x : ℕ) (old new : List ℕ) : Type 0 where
  pub nodes : List ℕ
  pub grounds : AreGrounds m f x nodes
  pub added : new ≡ insert_all nat_eq old nodes

-- the nodes are x and all that it rests on, directly or through others, each once
pub record AreUpholders (m : TimeMap) (f : Forest) (x : ℕ) (nodes : List ℕ) : Type 0 where
  pub live : All (IsLive f) nodes
  pub once : IsDistinct nat_eq nodes
  pub all : (k : Moment) → Contains (map (moment_at f) nodes) k ↔ Upholds m (moment_at f x) k
