-- When occurrences may stand one behind the other as the believed ones of a list.
use Rattle.std.specs.Prelude.{◌≡◌, ◌≢◌, ◌⊎◌, ◌↔◌, ℕ, List, [], ◌++◌, Option, Some, None, IsSome}
use Rattle.std.specs.List.{cons_option}
use Rattle.tmm_model.specs.declared.point.PointName.TheVariants.{Begin}
use Rattle.tmm_model.specs.Beliefs.{roots}
use Rattle.tmm_model.specs.Maps.{built, order}
use Rattle.tmm_model.specs.Moments.{Moment, At, After}
use Rattle.belief_theory.specs.Right.{Occurs, Fires, Belongs}
use Rattle.tmm_model.specs.Standing.{Standing, far_in}
use Rattle.list_theory.proofs.Distinct.{Rising}
use Rattle.list_theory.proofs.Elements.{In}
use Rattle.dist_net.specs.Net.{Net}
use Rattle.net_theory.specs.Represents.{Names}
use Rattle.spots.specs.Forest.{Forest, Member, member, moment, moment_at}
use Rattle.spots.specs.OfLists.{IsForestOf, HasOccurrences}
use Rattle.spots.specs.Growing.{Adds}
use Rattle.just_check.specs.declared.expected.Origin.{Origin}
use Rattle.just_check.specs.declared.expected.Expected.{Expected}
use Rattle.just_check.specs.Origins.{entry_at, Knows}

-- among the occurrences b the rule r fires at t, with an effect that begins by the horizon
abbrev pub FiresIn : Standing → List Moment → Moment → List ℕ → Type 0
FiresIn s b t r = Fires s (far_in s.premises) s.horizon b t r

-- k belongs to the occurrences b, and is none of them
pub record Joins (s : Standing) (b : List Moment) (k : Moment) : Type 0 where
  pub belongs : Belongs s (far_in s.premises) s.horizon b k
  pub new : In k b → ⊥

-- they are occurrences of the list in rising order, and what is derived among them is brought about
-- by rules that fire among them
pub record AreFirst (s : Standing) (b : List Moment) : Type 0 where
  pub occurs : (x : Moment) → In x b → Occurs s x
  pub fires : (t : Moment) (r : List ℕ) → In (After t r) b → FiresIn s b t r
  pub rising : Rising (order (built s)) b

-- they are the nodes of the tree
pub record AreSoFar (s : Standing) (net : Net) (f : Forest) (b : List Moment) : Type 0 where
  pub seen : IsForestOf s net f
  pub holds : HasOccurrences b f
  pub first : AreFirst s b

-- no node is of this occurrence
abbrev pub IsNoNode : Forest → Moment → Type 0
IsNoNode f k = (x : ℕ) (m : Member) → member f x ≡ Some m → moment m ≢ k

-- k has entered as this node; or it does not join the occurrences b
abbrev pub EntersAs : Standing → Names → List Moment → Moment → Forest → Forest → Option ℕ → Type 0
EntersAs s names b k old new (Some x) = Adds s names old new x k
EntersAs s names b k old new None = Joins s b k → ⊥

-- ---- what is to stand among the rows

-- what comes from the origin is declared, or brought about by a rule that fires among b at one of
-- these events
abbrev pub is_due : Standing → Forest → List Moment → List ℕ → Option ℕ → List ℕ → Type 0
is_due s f b events None name = In (At (Begin name)) (roots s)
is_due s f b events (Some x) name = In x events × FiresIn s b (moment_at f x) name

abbrev pub IsDue : Standing → Forest → List Moment → List ℕ → Origin → Type 0
IsDue s f b events o = is_due s f b events o.event o.name

-- expected is all that is declared, and all that rules bring about that fire among b at these
-- events; and the node of what stands is known
pub record Expects (s : Standing) (f : Forest) (b : List Moment) (events : List ℕ) (e : Expected) : Type 0 where
  pub knows : Knows f b e
  pub due : (o : Origin) → IsSome (entry_at e o) ↔ IsDue s f b events o

-- beside what was expected is expected what rules that fire among b bring about at the event x
pub record AwaitsMore (s : Standing) (f : Forest) (b : List Moment) (x : ℕ) (rules : List (List ℕ)) (old new : Expected) : Type 0 where
  pub kept : (o : Origin) → IsSome (entry_at old o) → entry_at new o ≡ entry_at old o
  pub own : (o : Origin) → IsSome (entry_at new o) → IsSome (entry_at old o) ⊎ ((o.event ≡ Some x) × FiresIn s b (moment_at f x) o.name)
  pub fresh : (o : Origin) (y : ℕ) → entry_at new o ≡ Some (Some y) → entry_at old o ≡ Some (Some y)
  pub all : (r : List ℕ) → In r rules → FiresIn s b (moment_at f x) r → IsSome (entry_at new (record { event = Some x; name = r }))

-- the origin is that of what is declared, which is one of these
abbrev pub IsRootIn : List Moment → Origin → Type 0
IsRootIn ks o = (o.event ≡ None) × In (At (Begin o.name)) ks

-- these are to stand among the rows, and nothing else is
pub record AwaitsRoots (ks : List Moment) (e : Expected) : Type 0 where
  pub own : (o : Origin) → IsSome (entry_at e o) → (entry_at e o ≡ Some None) × IsRootIn ks o
  pub all : (o : Origin) → IsRootIn ks o → IsSome (entry_at e o)

-- with this one, if it is there
abbrev pub AwaitsRoot : Expected → Expected → Option Moment → Type 0
AwaitsRoot old new root = (ks : List Moment) → AwaitsRoots ks old → AwaitsRoots (ks ++ cons_option root []) new
