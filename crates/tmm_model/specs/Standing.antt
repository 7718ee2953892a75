-- The standing list: the premises that hold, their points and their constraints.
use Rattle.std.specs.Prelude.{ℕ, nat_eq, Bool, true, false, ◌&&◌, List, [], ◌∷◌, ◌++◌, map, length, pos, negsuc, neg_ℤ, Option, find}
use Rattle.std.specs.List.{flat_map}
use Rattle.tmm_model.specs.declared.limits.TheConstants.{FIRST_HORIZON}
use Rattle.tmm_model.specs.declared.bound.Bound.{Bound}
use Rattle.tmm_model.specs.declared.bound.Bound.TheVariants.{Finite, Free}
use Rattle.tmm_model.specs.declared.point.PointName.{PointName}
use Rattle.tmm_model.specs.declared.point.PointName.TheVariants.{Start, Begin, End}
use Rattle.tmm_model.specs.declared.premise.Premise.{Premise}
use Rattle.tmm_model.specs.declared.premise.Premise.TheVariants.{Class, Kind, Point, Event, Token, Span, Dist, Rule, Protect, Against}
use Rattle.tmm_model.specs.declared.version.Version.{Version}
use Rattle.tmm_model.specs.declared.version.Version.TheVariants.{One}
use Rattle.tmm_model.specs.declared.walk.Side.TheVariants.{Hi, Lo, Base, Length}
use Rattle.tmm_model.specs.declared.walk.WalkStep.{WalkStep}
use Rattle.tmm_model.specs.Points.{same_point, same_name}
use Rattle.tmm_model.specs.Walks.{Arc, HasDates, far}

-- the version of its lines, the last date at which an effect is projected, and the premises, oldest
-- first
pub record Standing : Type 0 where
  pub version : Version
  pub horizon : ℕ
  pub premises : List Premise

-- what a script begins with: version 1, no premise, and the first horizon
abbrev pub empty_list : Standing
empty_list = record { version = One; horizon = FIRST_HORIZON; premises = [] }

-- version 1, and no premise
abbrev pub says_nothing : Version → List Premise → Bool
says_nothing One [] = true
says_nothing _ _ = false

-- whether the list is the empty list
abbrev pub is_empty : Standing → Bool
is_empty s = says_nothing s.version s.premises && nat_eq s.horizon FIRST_HORIZON

-- the name that a premise declares for itself
abbrev pub name_of : Premise → List ℕ
name_of (Class name facts) = name
name_of (Kind name) = name
name_of (Point name) = name
name_of (Event name kind) = name
name_of (Token name fact) = name
name_of (Span name fact) = name
name_of (Dist name from to lo hi) = name
name_of (Rule name trigger lo hi effect given unless_facts) = name
name_of (Protect name fact from to) = name
name_of (Against name one other) = name

-- the points that a premise declares
abbrev pub points_of : Premise → List PointName
points_of (Point name) = Begin name ∷ []
points_of (Event name kind) = Begin name ∷ []
points_of (Token name fact) = Begin name ∷ []
points_of (Span name fact) = Begin name ∷ End name ∷ []
points_of _ = []

-- no point is before `start`
abbrev pub base_step : List ℕ → WalkStep
base_step name = record { premise = name; side = Base; from = Begin name; to = Start; weight = pos 0 }

-- a span lasts at least 1
abbrev pub length_step : List ℕ → WalkStep
length_step name = record { premise = name; side = Length; from = End name; to = Begin name; weight = negsuc 0 }

-- `to - from <= hi`, where hi is a number
abbrev pub hi_steps : List ℕ → PointName → PointName → Bound → List WalkStep
hi_steps name from to (Finite hi) = record { premise = name; side = Hi; from = from; to = to; weight = hi } ∷ []
hi_steps name from to Free = []

-- `lo <= to - from`, where lo is a number
abbrev pub lo_steps : List ℕ → PointName → PointName → Bound → List WalkStep
lo_steps name from to (Finite lo) = record { premise = name; side = Lo; from = to; to = from; weight = neg_ℤ lo } ∷ []
lo_steps name from to Free = []

-- the constraints of a premise, each as the step of a walk
abbrev pub steps_of : Premise → List WalkStep
steps_of (Point name) = base_step name ∷ []
steps_of (Event name kind) = base_step name ∷ []
steps_of (Token name fact) = base_step name ∷ []
steps_of (Span name fact) = base_step name ∷ length_step name ∷ []
steps_of (Dist name from to lo hi) = hi_steps name from to hi ++ lo_steps name from to lo
steps_of _ = []

-- the constraint of a step
abbrev pub arc_of : WalkStep → Arc PointName
arc_of step = record { from = step.from; to = step.to; weight = step.weight }

-- the constraints of a premise
abbrev pub arcs_of : Premise → List (Arc PointName)
arcs_of premise = map arc_of (steps_of premise)

-- all points, `start` first
abbrev pub points_in : List Premise → List PointName
points_in premises = Start ∷ flat_map points_of premises

-- all constraints
abbrev pub arcs_in : List Premise → List (Arc PointName)
arcs_in premises = flat_map arcs_of premises

-- some dates satisfy all constraints
abbrev pub IsConsistent : List Premise → Type 0
IsConsistent premises = HasDates Start (arcs_in premises)

-- the tightest upper bound on the date of the second point less that of the first
abbrev pub far_in : List Premise → PointName → PointName → Bound
far_in premises a b = far same_point (arcs_in premises) (length (points_in premises)) a b

-- the premise of this name
abbrev pub premise_in : List Premise → List ℕ → Option Premise
premise_in premises name = find (λ premise. same_name name (name_of premise)) premises
