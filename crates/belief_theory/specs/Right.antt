-- Sets of occurrences that agree with the rules, and what the laws of belief suppose.
use Rattle.std.specs.Prelude.{◌≡◌, ◌↔◌, ℕ, ℤ, pos, ◌≤ℤ◌, List, IsTrue}
use Rattle.std.specs.List.{Contains}
use Rattle.tmm_model.specs.declared.bound.Bound.TheVariants.{Finite}
use Rattle.tmm_model.specs.declared.point.PointName.{PointName}
use Rattle.tmm_model.specs.declared.point.PointName.TheVariants.{Start}
use Rattle.tmm_model.specs.Beliefs.{roots, rules_at, due, is_free}
use Rattle.tmm_model.specs.Types.{IsTighter}
use Rattle.tmm_model.specs.Bounds.{bound_plus}
use Rattle.tmm_model.specs.Moments.{Moment, At, After, Distances, distance, early, rule_of}
use Rattle.tmm_model.specs.Standing.{Standing}
use Rattle.tmm_model.specs.Tokens.{is_by}

-- x is an occurrence of the list: a root, or a rule on the kind of an event that is one
abbrev pub Occurs : Standing → Moment → Type 0
Occurs s (At p) = Contains (roots s) (At p)
Occurs s (After t r) = Occurs s t × Contains (rules_at s t) r

-- among the occurrences b the rule r fires at t, with an effect that begins by date n
pub record Fires (s : Standing) (far : Distances) (n : ℕ) (b : List Moment) (t : Moment) (r : List ℕ) : Type 0 where
  pub believed : Contains b t
  pub stands : Contains (rules_at s t) r
  pub in_time : due s far t r ≤ℤ pos n
  pub free : IsTrue (is_free s far b t r)

-- x belongs to the occurrences b, up to date n: it is a root, or what a rule that fires brings
-- about
abbrev pub Belongs : Standing → Distances → ℕ → List Moment → Moment → Type 0
Belongs s far n b (At p) = Contains (roots s) (At p)
Belongs s far n b (After t r) = Fires s far n b t r

-- b has what belongs to it up to date n, and nothing else
abbrev pub IsRightTo : Standing → Distances → ℕ → List Moment → Type 0
IsRightTo s far n b = (x : Moment) → Contains b x ↔ Belongs s far n b x

-- **What it means that a set of occurrences is right.** The set is given as a list of its members.
abbrev pub IsRight : Standing → Distances → List Moment → Type 0
IsRight s far b = IsRightTo s far s.horizon b

-- distances of declared points, as of a list that some dates satisfy
pub record IsQuasiMetric (s : Standing) (far : Distances) : Type 0 where
  pub itself : (p : PointName) → far p p ≡ Finite (pos 0)
  pub triangle : (p q r : PointName) → IsTighter (far p r) (bound_plus (far p q) (far q r))
  pub from_root : (p : PointName) → Contains (roots s) (At p) → (d : ℤ) × (far p Start ≡ Finite d) × (d ≤ℤ pos 0)

-- rules whose effects begin at least 1 later, and whose bounds leave a delay
pub record HasSoundRules (s : Standing) : Type 0 where
  pub sound : (r : List ℕ) → IsTighter (Finite (rule_of s r).lo) (rule_of s r).hi
  pub delayed : (t : Moment) (r : List ℕ) → Contains (rules_at s t) r → pos 1 ≤ℤ (rule_of s r).lo

-- earliest dates of occurrences: none is before 0, an effect is due as its rule says, and what
-- surely is at or before another is no later
pub record IsTimed (s : Standing) (far : Distances) : Type 0 where
  pub not_before_start : (x : Moment) → Occurs s x → pos 0 ≤ℤ early s far x
  pub due_is : (t : Moment) (r : List ℕ) → Occurs s t → Contains (rules_at s t) r → early s far (After t r) ≡ due s far t r
  pub delayed : (t : Moment) (r : List ℕ) → Contains (rules_at s t) r → pos 1 ≤ℤ (rule_of s r).lo
  pub in_order : (x y : Moment) → Occurs s x → Occurs s y → IsTrue (is_by (distance s far) x y) → early s far x ≤ℤ early s far y
