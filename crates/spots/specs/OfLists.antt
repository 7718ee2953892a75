-- When nodes and a network are those of a standing list.
use Rattle.std.specs.Prelude.{◌≡◌, ◌≢◌, ℕ, List, Option, Some, None, MatchOption}
use Rattle.std.specs.List.{All, Contains}
use Rattle.tmm_model.specs.declared.point.PointName.TheVariants.{Begin, End}
use Rattle.tmm_model.specs.declared.token.Shape.{Shape}
use Rattle.tmm_model.specs.declared.token.Shape.TheVariants.{Event, Persistence, Span}
use Rattle.tmm_model.specs.Beliefs.{is_of, class_of}
use Rattle.tmm_model.specs.Maps.{TimeMap}
use Rattle.tmm_model.specs.Moments.{Moment, rule_of}
use Rattle.belief_theory.specs.Right.{Occurs}
use Rattle.tmm_model.specs.Standing.{Standing, far_in}
use Rattle.dist_net.specs.Net.{Net}
use Rattle.net_theory.specs.Fits.{IsNetOf}
use Rattle.net_theory.specs.Represents.{Names, IsNumberOf}
use Rattle.spots.specs.declared.link.Link.{Link}
use Rattle.spots.specs.Forest.{Forest, Member, member, moment, IsOnce}

-- the delays of a link are those of the rule
pub record IsLinkOf (s : Standing) (l : Link) : Type 0 where
  pub lo : (rule_of s l.rule).lo ≡ l.lo
  pub hi : (rule_of s l.rule).hi ≡ l.hi

-- the class of what occurs, none for an event
abbrev pub class_for : Standing → Shape → List ℕ → Option (List ℕ)
class_for s Event what = None
class_for s Persistence what = Some (class_of s what)
class_for s Span what = Some (class_of s what)

-- the node is an occurrence of the list, and has the values that the list and the numbers of points
-- give it
pub record IsMemberOf (s : Standing) (names : Names) (m : Member) : Type 0 where
  pub occurs : Occurs s (moment m)
  pub begin : IsNumberOf names m.begin (Begin m.root)
  pub «end» : MatchOption m.end (m.shape ≢ Span) (λ e. (m.shape ≡ Span) × IsNumberOf names e (End m.root))
  pub links : All (IsLinkOf s) m.links
  pub is : is_of s (moment m) ≡ Some (m.shape, m.what)
  pub class : m.class ≡ class_for s m.shape m.what

-- the network is the list's, and each node is an occurrence of the list, of which there is no other
-- node
pub record IsForestOf (s : Standing) (net : Net) (f : Forest) : Type 0 where
  pub network : IsNetOf s net
  pub members : (x : ℕ) (m : Member) → member f x ≡ Some m → IsMemberOf s net.names m
  pub once : IsOnce f

-- the nodes are these occurrences, each once
pub record HasOccurrences (b : List Moment) (f : Forest) : Type 0 where
  pub own : (x : ℕ) (m : Member) → member f x ≡ Some m → Contains b (moment m)
  pub all : (k : Moment) → Contains b k → (x : ℕ) × (m : Member) × (member f x ≡ Some m) × (moment m ≡ k)
  pub once : (x y : ℕ) (m n : Member) → member f x ≡ Some m → member f y ≡ Some n → moment m ≡ moment n → x ≡ y

-- nodes and network are those of some list
abbrev pub HasList : Net → Forest → Type 0
HasList net f = (s : Standing) × IsForestOf s net f

-- the map of a list in which these occurrences are believed
abbrev pub map_of : Standing → List Moment → TimeMap
map_of s b = record { list = s; far = far_in s.premises; believed = b }
