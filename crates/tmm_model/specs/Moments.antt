-- Points in time: the declared ones, and the begins of what rules bring about. An occurrence is the
-- moment at which it begins.
use Rattle.std.specs.Prelude.{ℕ, ℤ, pos, neg_ℤ, ◌+ℤ◌, Bool, true, false, ◌&&◌, List, [], ◌∷◌, ◌++◌, Option, Some}
use Rattle.std.specs.declared.cmp.Ordering.{Ordering}
use Rattle.std.specs.Ordering.{int_cmp, nat_cmp, on, then_cmp}
use Rattle.std.specs.Cmp.Lexicographic.{slice_cmp}
use Rattle.tmm_model.specs.declared.bound.Bound.{Bound}
use Rattle.tmm_model.specs.declared.bound.Bound.TheVariants.{Finite, Free}
use Rattle.tmm_model.specs.declared.point.Occ.{Occ}
use Rattle.tmm_model.specs.declared.point.PointName.{PointName}
use Rattle.tmm_model.specs.declared.point.PointName.TheVariants.{Start, Begin}
use Rattle.tmm_model.specs.declared.point.QueryPoint.{QueryPoint}
use Rattle.tmm_model.specs.declared.point.QueryPoint.TheVariants.{Declared, Derived}
use Rattle.tmm_model.specs.declared.premise.Premise.{Premise}
use Rattle.tmm_model.specs.declared.premise.Premise.TheVariants.{Rule}
use Rattle.tmm_model.specs.Bounds.{bound_plus, bound_less}
use Rattle.tmm_model.specs.Points.{same_name, same_point, point_word}
use Rattle.tmm_model.specs.Standing.{Standing, premise_in}

-- A declared point, or the begin of the effect of a rule on the event at a moment. The occurrence
-- that a script writes as `e/r/q` is `After (After (At (Begin e)) r) q`.
pub data Moment : Type 0 where
  At : PointName → Moment
  After : Moment → List ℕ → Moment

-- whether two moments are the same
abbrev pub same_moment : Moment → Moment → Bool
same_moment (At p) (At q) = same_point p q
same_moment (After t r) (After u q) = same_name r q && same_moment t u
same_moment _ _ = false

-- the declared point from which the rules lead on, and the rules
abbrev pub base : Moment → PointName
base (At p) = p
base (After t r) = base t

-- the rules that lead on from its declared point, the first one first
abbrev pub rules : Moment → List (List ℕ)
rules (At p) = []
rules (After t r) = rules t ++ r ∷ []

-- whether it is what a rule brings about
abbrev pub is_derived : Moment → Bool
is_derived (At p) = false
is_derived (After t r) = true

-- ---- as the code and the script have them

-- the moment that rules lead to from another
abbrev pub along : Moment → List (List ℕ) → Moment
along t [] = t
along t (r ∷ rs) = along (After t r) rs

-- the moment of an occurrence as the script writes it
abbrev pub moment_of : Occ → Moment
moment_of o = along (At (Begin o.root)) o.rules.items

-- the moment of a point of a question
abbrev pub moment_of_point : QueryPoint → Moment
moment_of_point (Declared p) = At p
moment_of_point (Derived o) = moment_of o

-- the word for a moment: the declared point and the rules, parted by `/`
abbrev pub printed : Moment → List ℕ
printed (At p) = point_word p
printed (After t r) = printed t ++ 47 ∷ r

-- ---- what rules say

-- the kind of its events, the bounds on its delay, its effect, its antecedents and its exceptions
pub record RuleText : Type 0 where
  pub trigger : List ℕ
  pub lo : ℤ
  pub hi : Bound
  pub effect : List ℕ
  pub given : List (List ℕ)
  pub exceptions : List (List ℕ)

-- what a premise says as a rule; one that is no rule says nothing of meaning
abbrev pub as_rule : Option Premise → RuleText
as_rule (Some (Rule name trigger lo hi effect given unless_facts)) = record { trigger = trigger; lo = lo; hi = hi; effect = effect; given = given.items; exceptions = unless_facts.items }
as_rule _ = record { trigger = []; lo = pos 0; hi = Finite (pos 0); effect = []; given = []; exceptions = [] }

-- the facts on which it depends whether it fires: its antecedents and its exceptions
abbrev pub read_by : RuleText → List (List ℕ)
read_by text = text.given ++ text.exceptions

-- the rule of this name
abbrev pub rule_of : Standing → List ℕ → RuleText
rule_of s r = as_rule (premise_in s.premises r)

-- ---- distances

-- the tightest distances of declared points; of a list of premises they are `far_in` of it
abbrev pub Distances : Type 0
Distances = PointName → PointName → Bound

-- the least time that rules take, one after the other
abbrev pub low : Standing → List (List ℕ) → ℤ
low s [] = pos 0
low s (r ∷ rs) = (rule_of s r).lo +ℤ low s rs

-- the most time that they take, none where one of them has no bound
abbrev pub high : Standing → List (List ℕ) → Bound
high s [] = Finite (pos 0)
high s (r ∷ rs) = bound_plus (rule_of s r).hi (high s rs)

-- From where rules u lead to where rules v lead, from one point: the rules that both begin with
-- count for nothing.
abbrev pub apart : Standing → List (List ℕ) → List (List ℕ) → Bound
apart s (r ∷ u) (q ∷ v) =
    elim (same_name r q) [
      | true ↦ apart s u v
      | false ↦ bound_less (high s (q ∷ v)) (low s (r ∷ u))
    ]
apart s u v = bound_less (high s v) (low s u)

-- the number with its sign turned; 0 where there is none, as for a point that is not declared
abbrev pub negated : Bound → ℤ
negated (Finite x) = neg_ℤ x
negated Free = pos 0

module _ (s : Standing) (far : Distances) where
  -- the tightest upper bound on the date of y less that of x
  abbrev pub distance : Moment → Moment → Bound
  distance x y =
      elim (same_point (base x) (base y)) [
        | true ↦ apart s (rules x) (rules y)
        | false ↦ bound_less (bound_plus (far (base x) (base y)) (high s (rules y))) (low s (rules x))
      ]

  -- the earliest date
  abbrev pub early : Moment → ℤ
  early x = negated (distance x (At Start))

  -- **The order of occurrences**: by the earliest date, then by the bytes of the word.
  abbrev pub occ_cmp : Moment → Moment → Ordering
  occ_cmp = then_cmp (on early int_cmp) (on printed (slice_cmp nat_cmp))
