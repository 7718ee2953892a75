-- What occurrences come from, and the nodes that are known under it.
use Rattle.std.specs.Prelude.{◌≡◌, ◌≢◌, ℕ, Bool, ◌&&◌, List, Option, Some, None, MatchOption, nat_eq}
use Rattle.std.specs.Map.{lookup}
use Rattle.std.specs.Option.{option_and_then, option_eq}
use Rattle.tmm_model.specs.declared.point.PointName.TheVariants.{Begin}
use Rattle.tmm_model.specs.Moments.{Moment, At, After}
use Rattle.tmm_model.specs.Points.{same_name}
use Rattle.list_theory.proofs.Elements.{In}
use Rattle.spots.specs.Forest.{Forest, IsLive, moment_at}
use Rattle.spots.specs.OfLists.{HasOccurrences}
use Rattle.just_check.specs.declared.expected.Origin.{Origin}
use Rattle.just_check.specs.declared.expected.Expected.{Expected}

-- what comes from an origin: what is declared under the name, or what the rule of the name brings
-- about at the event
abbrev pub comes_of : Forest → Option ℕ → List ℕ → Moment
comes_of f None name = At (Begin name)
comes_of f (Some x) name = After (moment_at f x) name

abbrev pub comes_from : Forest → Origin → Moment
comes_from f o = comes_of f o.event o.name

-- the event of the origin, if it has one, is a node
abbrev pub has_event : Forest → Option ℕ → Type 0
has_event f None = Unit {0}
has_event f (Some x) = IsLive f x

-- whether two origins are the same
abbrev pub same_origin : Origin → Origin → Bool
same_origin a b = option_eq nat_eq a.event b.event && same_name a.name b.name

-- What is told of an origin: nothing where what comes from it is not to stand among the rows; else
-- its node, none where it does not stand yet.
abbrev pub entry_at : Expected → Origin → Option (Option ℕ)
entry_at e o = lookup (same_origin o) e.nodes.entries

-- the node of what comes from it, none where it does not stand
abbrev pub node_under : Expected → Origin → Option ℕ
node_under e o = option_and_then (λ (x : Option ℕ). x) (entry_at e o)

-- what is told of an origin once what comes from it is to stand among the rows
abbrev pub awaited : Option (Option ℕ) → Option (Option ℕ)
awaited None = Some None
awaited (Some x) = Some x

-- what comes from this origin is to stand among the rows, and all else stays
pub record Awaits (old new : Expected) (o : Origin) : Type 0 where
  pub own : entry_at new o ≡ awaited (entry_at old o)
  pub others : (p : Origin) → p ≢ o → entry_at new p ≡ entry_at old p

-- what comes from this origin is the node x, and all else stays
pub record SetsNode (old new : Expected) (o : Origin) (x : ℕ) : Type 0 where
  pub own : entry_at new o ≡ Some (Some x)
  pub others : (p : Origin) → p ≢ o → entry_at new p ≡ entry_at old p

-- The nodes are the occurrences b, the event of each effect is among them, and the node of each is
-- known under its origin.
pub record Knows (f : Forest) (b : List Moment) (e : Expected) : Type 0 where
  pub holds : HasOccurrences b f
  pub closed : (t : Moment) (r : List ℕ) → In (After t r) b → In t b
  pub nodes : (o : Origin) (x : ℕ) → entry_at e o ≡ Some (Some x) → IsLive f x × (moment_at f x ≡ comes_from f o)
  pub all : (o : Origin) (x : ℕ) → has_event f o.event → IsLive f x → moment_at f x ≡ comes_from f o → entry_at e o ≡ Some (Some x)

-- it is the node of k, none where k is none of the occurrences b
abbrev pub IsFoundAmong : Forest → List Moment → Moment → Option ℕ → Type 0
IsFoundAmong f b k found = MatchOption found (In k b → ⊥) (λ x. IsLive f x × (moment_at f x ≡ k))

-- It is the origin of k, whose event is a node if it has one. There is none only where k is an
-- effect whose event is none of the occurrences b.
abbrev pub IsOriginOf : Forest → List Moment → Moment → Option Origin → Type 0
IsOriginOf f b k found =
    MatchOption found ((t : Moment) × (r : List ℕ) × (k ≡ After t r) × (In t b → ⊥)) (λ o. has_event f o.event × (comes_from f o ≡ k))
