-- What holds while an edit's decisions are made again, earliest first.
use Rattle.std.specs.Prelude.{◌≡◌, ◌↔◌, ◌⊎◌, ℕ, ℤ, ◌≤ℤ◌, true, false, List}
use Rattle.std.specs.List.{Contains}
use Rattle.tmm_model.specs.declared.point.PointName.{PointName}
use Rattle.belief_theory.specs.Outcomes.{Outcome, beyond}
use Rattle.tmm_model.specs.Moments.{Moment, At, After}
use Rattle.list_theory.proofs.Elements.{In}
use Rattle.list_theory.proofs.Distinct.{Distinct}
use Rattle.revisions.specs.Revisions.{Revision, is_firing, IsNew, IsLost}

-- a decision that waits: it is on a live event no earlier than d, and touched if that event is
-- believed in the end
pub record Waits (g : Revision) (b : List Moment) (d : ℤ) (t : Moment) (r : List ℕ) : Type 0 where
  pub live : Contains b t
  pub stands : Contains (g.rules t) r
  pub after : d ≤ℤ g.early t
  pub touched : Contains g.believed t → g.touched t r ≡ true

-- a decision that was made: it is one of the map after the edit, touched, on an event no later than
-- d, and waits no more
pub record Made (g : Revision) (queued : Moment → List ℕ → Type 0) (d : ℤ) (t : Moment) (r : List ℕ) : Type 0 where
  pub believed : Contains g.believed t
  pub stands : Contains (g.rules t) r
  pub by_now : g.early t ≤ℤ d
  pub touched : g.touched t r ≡ true
  pub gone : queued t r → ⊥

-- the outcome that is kept of a decision not made yet: that of the map before, or none yet, and
-- then it waits
abbrev pub IsUntaken : Revision → (Moment → List ℕ → Outcome) → (Moment → List ℕ → Type 0) → Moment → List ℕ → Type 0
IsUntaken g kept queued t r = ((g.was t r ≡ true) × (kept t r ≡ g.was_outcome t r)) ⊎ ((g.was t r ≡ false) × queued t r × (kept t r ≡ beyond))

-- **What the loop keeps.** b are the live nodes, `kept` the outcomes in the rows, `taken` the
-- decisions made so far, and d is the date of the last of them. That the live nodes up to d are
-- those believed in the end is a consequence.
pub record IsKeeping (g : Revision) (b : List Moment) (kept : Moment → List ℕ → Outcome) (queued : Moment → List ℕ → Type 0)
    (taken : List (Moment × List ℕ)) (d : ℤ) : Type 0 where
  -- the live roots are the roots, and each other live node is a child of a live one by a rule
  pub root : (p : PointName) → Contains b (At p) ↔ Contains g.roots (At p)
  pub child : (t : Moment) (r : List ℕ) → Contains b (After t r) → Contains b t × Contains (g.rules t) r
  pub known : (x : Moment) → Contains b x → Contains g.before x ⊎ Contains g.believed x
  -- an effect is live exactly where the kept outcome is that its rule fires
  pub fires : (t : Moment) (r : List ℕ) → Contains b t → Contains (g.rules t) r → Contains b (After t r) ↔ (is_firing (kept t r) ≡ true)
  -- a decision that does not wait has its right outcome for the nodes as they are
  pub right : (t : Moment) (r : List ℕ) → Contains b t → Contains (g.rules t) r → queued t r ⊎ (kept t r ≡ g.outcome b t r)
  pub first : (t : Moment) (r : List ℕ) → Contains b t → Contains (g.rules t) r → In (t, r) taken ⊎ IsUntaken g kept queued t r
  pub waits : (t : Moment) (r : List ℕ) → queued t r → Waits g b d t r
  pub made : (t : Moment) (r : List ℕ) → In (t, r) taken → Made g queued d t r
  pub once : Distinct taken

-- the decision is due first of those that wait
pub record IsLeast (g : Revision) (queued : Moment → List ℕ → Type 0) (t : Moment) (r : List ℕ) : Type 0 where
  pub waits : queued t r
  pub least : (u : Moment) (q : List ℕ) → queued u q → g.early t ≤ℤ g.early u

-- what has been told so far of derived occurrences: those that entered and those that left
pub record IsTold (g : Revision) (b ins outs : List Moment) : Type 0 where
  pub new : (x : Moment) → In x ins → IsNew g x
  pub lost : (x : Moment) → In x outs → IsLost g x
  pub entered : (t : Moment) (r : List ℕ) → Contains b (After t r) → Contains g.before (After t r) ⊎ In (After t r) ins
  pub left : (t : Moment) (r : List ℕ) → Contains g.before (After t r) → Contains b (After t r) ⊎ In (After t r) outs
  -- what entered stays, and what left does not come again; so each is told once
  pub live : (x : Moment) → In x ins → Contains b x
  pub gone : (x : Moment) → In x outs → Contains b x → ⊥
  pub once_entered : Distinct ins
  pub once_left : Distinct outs
