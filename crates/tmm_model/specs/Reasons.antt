-- The reasons of a belief: all that it rests on, each before what rests on it.
use Rattle.std.specs.Prelude.{◌≡◌, ◌↔◌, ℕ, ℤ, List, [], ◌∷◌, ◌++◌, map, Option, Some, None}
use Rattle.std.specs.List.{AllZip, Contains, filter_map, flat_map}
use Rattle.std.specs.List.Sorted.{IsStrictlySortedBy}
use Rattle.std.specs.Option.{option_and_then}
use Rattle.tmm_model.specs.declared.bound.Bound.TheVariants.{Finite}
use Rattle.tmm_model.specs.declared.changes.WhyLine.{WhyLine}
use Rattle.tmm_model.specs.declared.changes.WhyLine.TheVariants.{Premise as PremiseLine, Order as OrderLine, Derived as DerivedLine}
use Rattle.tmm_model.specs.declared.walk.WalkStep.{WalkStep}
use Rattle.tmm_model.specs.Beliefs.{token_of, supporters}
use Rattle.tmm_model.specs.Maps.{TimeMap, gap, order}
use Rattle.tmm_model.specs.Moments.{Moment, At, After, base, rule_of, moment_of, moment_of_point}
use Rattle.tmm_model.specs.Paths.{IsLeastWalk}
use Rattle.tmm_model.specs.Points.{point_word}

-- A line of reasons.
pub data Reason : Type 0 where
  -- this premise declares it
  by_premise : List ℕ → Reason
  -- the first is surely at or before the second: this is the upper bound on the first less the
  -- second, and these constraints give it
  by_order : Moment → Moment → ℤ → List WalkStep → Reason
  -- this occurrence is the effect of this rule on this event; these support the antecedents, and
  -- the exceptions are these facts
  by_rule : Moment → List ℕ → Moment → List Moment → List (List ℕ) → Reason

module _ (m : TimeMap) where
  -- the first supporter of each antecedent of r at t
  abbrev pub supports_at : Moment → List ℕ → List Moment
  supports_at t r = filter_map (λ k. k) (supporters m.list m.far m.believed t r)

  -- what an occurrence rests on directly
  abbrev pub rests_on : Moment → List Moment
  rests_on (At p) = []
  rests_on (After t r) = t ∷ supports_at t r

  -- x is o, or something that it rests on, directly or through others
  pub data Upholds : Moment → Moment → Type 0 where
    itself : {o : Moment} → Upholds o o
    through : {o y x : Moment} → Contains (rests_on o) y → Upholds y x → Upholds o x

-- ---- lines

module _ (m : TimeMap) where
  -- the line of an occurrence itself
  abbrev pub belief_line : Moment → Reason
  belief_line (At p) = by_premise (point_word p)
  belief_line (After t r) = by_rule (After t r) r t (supports_at m t r) (rule_of m.list r).exceptions

  -- t and the end of its supporter, where that is a span
  abbrev pub end_pair : Moment → Option Moment → List (Moment × Moment)
  end_pair t None = []
  end_pair t (Some e) = (t, e) ∷ []

  -- for a supporter k at t, what has to be in order: k and t, and for a span t and its end
  abbrev pub pairs_of : Moment → Moment → List (Moment × Moment)
  pairs_of t k = (k, t) ∷ end_pair t (option_and_then (λ row. row.end) (token_of m.list k))

  -- all that has to be in order for what a rule brings about
  abbrev pub pairs : Moment → List (Moment × Moment)
  pairs (At p) = []
  pairs (After t r) = flat_map (pairs_of t) (supports_at m t r)

  -- the line that x is surely at or before y: the distance from y to x, and a least walk of
  -- constraints
  pub record IsOrderLine (pair : Moment × Moment) (line : Reason) : Type 0 where
    pub far : ℤ
    pub steps : List WalkStep
    pub shown : line ≡ by_order pair.0 pair.1 far steps
    pub distance : gap m pair.1 pair.0 ≡ Finite far
    pub walk : IsLeastWalk m (base pair.1) (base pair.0) steps

  -- the lines of the occurrences, one after the other: the orders that each needs, and then its own
  -- line
  abbrev pub AreReasons : List Moment → List Reason → Type 0
  AreReasons [] lines = lines ≡ []
  AreReasons (x ∷ xs) lines =
      (orders : List Reason) × (rest : List Reason)
      × (lines ≡ orders ++ belief_line x ∷ rest)
      × AllZip IsOrderLine (pairs x) orders
      × AreReasons xs rest

-- **The reasons** of the occurrence o: the lines of o and of all that it rests on, each once, in
-- the order of occurrences.
pub record IsWhy (m : TimeMap) (o : Moment) (lines : List Reason) : Type 0 where
  pub occs : List Moment
  pub all : (x : Moment) → Contains occs x ↔ Upholds m o x
  pub in_order : IsStrictlySortedBy (order m) occs
  pub told : AreReasons m occs lines

-- the value of the code, as these definitions have it
abbrev pub reason_of : WhyLine → Reason
reason_of (PremiseLine name) = by_premise name
reason_of (OrderLine first second far steps) = by_order (moment_of_point first) (moment_of_point second) far steps.items
reason_of (DerivedLine occ rule trigger supports unless_facts) = by_rule (moment_of occ) rule (moment_of trigger) (map moment_of supports.items) unless_facts.items
