-- How the loop begins: what no longer occurs is withdrawn, new roots are entered, and what the edit
-- may touch waits.
use Rattle.std.specs.Prelude.{◌≡◌, ◌↔◌, ◌⊎◌, ℕ, true, false, List}
use Rattle.std.specs.List.{Contains}
use Rattle.tmm_model.specs.declared.point.PointName.{PointName}
use Rattle.belief_theory.specs.Outcomes.{Outcome, beyond}
use Rattle.tmm_model.specs.Moments.{Moment, At, After}
use Rattle.revisions.specs.Revisions.{Revision, IsOf}

-- **What the loop begins with**: b are the nodes, `kept` the outcomes in the rows, and `queued`
-- tells what waits.
pub record IsSeeded (g : Revision) (b : List Moment) (kept : Moment → List ℕ → Outcome) (queued : Moment → List ℕ → Type 0) : Type 0 where
  -- the nodes are the new roots, and the old derived ones that still occur
  pub root : (p : PointName) → Contains b (At p) ↔ Contains g.roots (At p)
  pub derived : (t : Moment) (r : List ℕ) → Contains b (After t r) ↔ (Contains g.before (After t r) × IsOf g (After t r))
  -- rows that stay have their outcomes still, new rows have none yet and wait
  pub old_rows : (t : Moment) (r : List ℕ) → Contains b t → Contains (g.rules t) r → g.was t r ≡ true → kept t r ≡ g.was_outcome t r
  pub new_rows : (t : Moment) (r : List ℕ) → Contains b t → Contains (g.rules t) r → g.was t r ≡ false → queued t r × (kept t r ≡ beyond)
  -- what does not wait has still its outcome, and what waits is touched
  pub right : (t : Moment) (r : List ℕ) → Contains b t → Contains (g.rules t) r → g.was t r ≡ true → queued t r ⊎ (g.was_outcome t r ≡ g.outcome b t r)
  pub waits : (t : Moment) (r : List ℕ) → queued t r → Contains b t × Contains (g.rules t) r
  pub touched : (t : Moment) (r : List ℕ) → queued t r → Contains g.believed t → g.touched t r ≡ true
