-- A set in which each decision that doesn't pend is made rightly, for the set as it is.
use Rattle.std.proofs.Common.{ℕ, List}
use Rattle.std.specs.Prelude.{◌↔◌, ◌⊎◌, pos, ◌≤ℤ◌, IsTrue}
use Rattle.std.specs.List.{Contains}
use Rattle.tmm_model.specs.declared.point.PointName.{PointName}
use Rattle.tmm_model.specs.Moments.{Moment, At, After, Distances}
use Rattle.tmm_model.specs.Standing.{Standing}
use Rattle.tmm_model.specs.Beliefs.{roots, rules_at, due, is_free}
use Rattle.belief_theory.specs.Right.{Occurs, IsTimed}

module _ (s : Standing) (far : Distances) (timed : IsTimed s far) (h : ℕ) where
  -- the effect of r on t is in b exactly where r fires there
  abbrev pub IsMade : List Moment → Moment → List ℕ → Type 0
  IsMade b t r = Contains b (After t r) ↔ ((due s far t r ≤ℤ pos h) × IsTrue (is_free s far b t r))

  pub record Updating (b : List Moment) (pends : Moment → List ℕ → Type 0) : Type 0 where
    pub has_roots : (p : PointName) → Contains (roots s) (At p) → Contains b (At p)
    pub member_occurs : (x : Moment) → Contains b x → Occurs s x
    pub closed : (t : Moment) (r : List ℕ) → Contains b (After t r) → Contains b t
    pub made : (t : Moment) (r : List ℕ) → Contains b t → Contains (rules_at s t) r → pends t r ⊎ IsMade b t r
