-- Lists that are alike in all that beliefs read, and what is the same of them then.
use Rattle.std.specs.Prelude.{◌≡◌, ℕ, Bool, true, false, not, ◌&&◌, List, [], filter, Option, Some, None}
use Rattle.std.specs.List.{Contains}
use Rattle.std.specs.Option.{option_map_or}
use Rattle.tmm_model.specs.declared.point.PointName.{PointName}
use Rattle.tmm_model.specs.declared.point.PointName.TheVariants.{Start, Begin, End}
use Rattle.tmm_model.specs.declared.premise.Edit.{Edit}
use Rattle.tmm_model.specs.declared.premise.Edit.TheVariants.{Add, Erase, Horizon, Upgrade}
use Rattle.tmm_model.specs.declared.premise.Premise.{Premise}
use Rattle.tmm_model.specs.declared.premise.Premise.TheVariants.{Point, Dist, Protect, Against}
use Rattle.tmm_model.specs.declared.token.Shape.TheVariants.{Span}
use Rattle.tmm_model.specs.Answers.{rows, size, clip}
use Rattle.tmm_model.specs.Beliefs.{roots, is_of, rules_on, class_of}
use Rattle.tmm_model.specs.Changes.{Delta, changes}
use Rattle.tmm_model.specs.Edits.{next_list}
use Rattle.tmm_model.specs.Maps.{built, gap, believed_tokens}
use Rattle.tmm_model.specs.Moments.{Moment, At, rule_of, early}
use Rattle.tmm_model.specs.Standing.{Standing, far_in, premise_in}
use Rattle.list_theory.specs.WellNamed.{IsWellNamed}
use Rattle.belief_theory.specs.Touched.{contradict}

-- ---- alike lists

-- Both lists say the same, distances aside: what is declared to occur, what an occurrence is, which
-- rules are on a kind, what a rule says, the class of a fact, which facts contradict each other,
-- and the horizon.
pub record SayAlike (s t : Standing) : Type 0 where
  pub declared : roots s ≡ roots t
  pub is : (x : Moment) → is_of s x ≡ is_of t x
  pub on : (kind : List ℕ) → rules_on s kind ≡ rules_on t kind
  pub rule : (r : List ℕ) → rule_of s r ≡ rule_of t r
  pub class : (fact : List ℕ) → class_of s fact ≡ class_of t fact
  pub contradict : (f g : List ℕ) → contradict s f g ≡ contradict t f g
  pub horizon : s.horizon ≡ t.horizon

-- the points whose distances beliefs read: `start`, where what is declared to occur begins, and
-- where a span ends
abbrev pub IsAnchor : Standing → PointName → Type 0
IsAnchor s Start = Unit {0}
IsAnchor s (Begin k) = Contains (roots s) (At (Begin k))
IsAnchor s (End k) = (fact : List ℕ) × (is_of s (At (Begin k)) ≡ Some (Span, fact))

-- **The lists are alike in all that beliefs read**: they say the same, and those points are as far
-- apart in both.
pub record AreAlike (s t : Standing) : Type 0 where
  pub say : SayAlike s t
  pub distances : (p q : PointName) → IsAnchor s p → IsAnchor s q → far_in s.premises p q ≡ far_in t.premises p q

-- the same is believed of both, in the same order, with the same tokens, distances, dates and clips
pub record BelieveAlike (s t : Standing) : Type 0 where
  pub believed : (built s).believed ≡ (built t).believed
  pub tokens : believed_tokens (built s) ≡ believed_tokens (built t)
  pub gaps : (x y : Moment) → Contains (built s).believed x → Contains (built s).believed y → gap (built s) x y ≡ gap (built t) x y
  pub dates : (x : Moment) → Contains (built s).believed x → early s (far_in s.premises) x ≡ early t (far_in t.premises) x
  pub clips : (x : Moment) → Contains (built s).believed x → clip (built s) x ≡ clip (built t) x
  pub listed : rows (built s) ≡ rows (built t)
  pub sized : size (built s) ≡ size (built t)

-- no occurrence enters or leaves, and no clip changes
pub record TellsNoBelief (d : Delta) : Type 0 where
  pub left : d.left ≡ []
  pub entered : d.entered ≡ []
  pub loose : d.loose ≡ []
  pub clips : d.clips ≡ []

-- **Of alike lists the same is believed**, and from one to the other no belief changes.
abbrev pub AlikeBelieve : Type 0
AlikeBelieve = (s t : Standing) → AreAlike s t → BelieveAlike s t × TellsNoBelief (changes s t)

-- ---- premises that beliefs read

-- Whether beliefs read the premise itself. Of points, constraints and protections they read none: a
-- point or a constraint matters by the distances that it makes, a protection not at all.
abbrev pub is_read : Premise → Bool
is_read (Point name) = false
is_read (Dist name from to lo hi) = false
is_read (Protect name fact from to) = false
is_read _ = true

-- the premises that beliefs read, in their order
abbrev pub read_of : List Premise → List Premise
read_of premises = filter is_read premises

-- **Lists with the same such premises, in the same order, and the same horizon say the same.**
abbrev pub SameReadSayAlike : Type 0
SameReadSayAlike =
    (s t : Standing) → IsWellNamed s.premises → IsWellNamed t.premises → read_of s.premises ≡ read_of t.premises → s.horizon ≡ t.horizon → SayAlike s t

-- whether the edit adds a premise that beliefs do not read, or erases one, or opens a version
abbrev pub is_unread : List Premise → Edit → Bool
is_unread premises (Add premise) = not (is_read premise)
is_unread premises (Erase name) = option_map_or (λ premise. not (is_read premise)) (premise_in premises name) false
is_unread premises (Horizon n) = false
is_unread premises Upgrade = true

-- **After such an edit the list says the same**: nothing that beliefs read mentions a premise that
-- they do not.
abbrev pub UnreadEditsSayAlike : Type 0
UnreadEditsSayAlike =
    (s : Standing) (edit : Edit) → IsWellNamed s.premises → IsWellNamed (next_list s edit).premises
    → is_unread s.premises edit ≡ true → SayAlike s (next_list s edit)

-- ---- premises that say which facts contradict each other

-- whether beliefs read of the premise more than which facts contradict each other
abbrev pub is_told : Premise → Bool
is_told (Against name one other) = false
is_told p = is_read p

-- the premises of which they do, in their order
abbrev pub told_of : List Premise → List Premise
told_of premises = filter is_told premises

-- the facts of which the premise says that they contradict each other
abbrev pub rivalry_in : Option Premise → Option (List ℕ × List ℕ)
rivalry_in (Some (Against name one other)) = Some (one, other)
rivalry_in _ = None

-- those of which a premise says so that the edit adds or erases
abbrev pub rivalry_of : List Premise → Edit → Option (List ℕ × List ℕ)
rivalry_of premises (Add premise) = rivalry_in (Some premise)
rivalry_of premises (Erase name) = rivalry_in (premise_in premises name)
rivalry_of premises _ = None

-- whether the edit adds or erases a premise that says that two facts contradict each other, and
-- without it they do all the same
abbrev pub is_idle : Standing → Edit → Bool
is_idle s edit = option_map_or (λ pair. contradict s pair.0 pair.1 && contradict (next_list s edit) pair.0 pair.1) (rivalry_of s.premises edit) false

-- **After such an edit the list says the same.**
abbrev pub IdleEditsSayAlike : Type 0
IdleEditsSayAlike =
    (s : Standing) (edit : Edit) → IsWellNamed s.premises → IsWellNamed (next_list s edit).premises
    → is_idle s edit ≡ true → SayAlike s (next_list s edit)
