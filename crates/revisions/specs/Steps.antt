-- One turn of the loop: the earliest decision that waits is made.
use Rattle.std.specs.Prelude.{◌≡◌, ◌↔◌, ◌⊎◌, ℕ, ◌<ℤ◌, true, false, List}
use Rattle.std.specs.List.{Contains}
use Rattle.belief_theory.specs.Outcomes.{Outcome, beyond}
use Rattle.tmm_model.specs.Moments.{Moment, At, After}
use Rattle.list_theory.proofs.Elements.{In}
use Rattle.list_theory.proofs.Distinct.{Distinct}
use Rattle.revisions.specs.Revisions.{Revision, is_firing}

-- x is y or stands below it
abbrev pub IsUnder : Moment → Moment → Type 0
IsUnder y (At p) = At p ≡ y
IsUnder y (After t r) = (After t r ≡ y) ⊎ IsUnder y t

-- another decision than r at t
abbrev pub Differs : Moment → List ℕ → Moment → List ℕ → Type 0
Differs t r u q = (u ≡ t) × (q ≡ r) → ⊥

-- a decision that is marked: it is later than the one at t, live, and touched if it is believed in
-- the end
pub record IsMarked (g : Revision) (c : List Moment) (t u : Moment) (q : List ℕ) : Type 0 where
  pub live : Contains c u
  pub stands : Contains (g.rules u) q
  pub after : g.early t <ℤ g.early u
  pub touched : Contains g.believed u → g.touched u q ≡ true

-- What any turn does: the row of r at t has the outcome made; other rows of nodes that stay have
-- theirs still; others wait on as long as their event is live; what else waits now is marked; and
-- where the outcome of a decision that stays is another for the nodes as they are now, it waits.
pub record Makes (g : Revision) (b c : List Moment) (kept kept_after : Moment → List ℕ → Outcome)
    (queued queued_after : Moment → List ℕ → Type 0) (t : Moment) (r : List ℕ) : Type 0 where
  pub now : kept_after t r ≡ g.outcome b t r
  pub others : (u : Moment) (q : List ℕ) → Contains b u → Contains c u → Contains (g.rules u) q → Differs t r u q → kept_after u q ≡ kept u q
  pub stay : (u : Moment) (q : List ℕ) → queued u q → Contains c u → Differs t r u q → queued_after u q
  pub come : (u : Moment) (q : List ℕ) → queued_after u q → (queued u q × Contains c u × Differs t r u q) ⊎ IsMarked g c t u q
  pub unmarked : (u : Moment) (q : List ℕ) → Contains b u → Contains c u → Contains (g.rules u) q → Differs t r u q
      → queued_after u q ⊎ (g.outcome c u q ≡ g.outcome b u q)

-- the same nodes stay
pub record Stays (g : Revision) (b c : List Moment) (kept : Moment → List ℕ → Outcome) (t : Moment) (r : List ℕ) : Type 0 where
  pub same : c ≡ b
  pub alike : is_firing (g.outcome b t r) ≡ is_firing (kept t r)

-- the effect enters, and the rules on it wait, with no outcome yet
pub record Enters (g : Revision) (b c : List Moment) (kept kept_after : Moment → List ℕ → Outcome)
    (queued_after : Moment → List ℕ → Type 0) (t : Moment) (r : List ℕ) : Type 0 where
  pub fires_now : is_firing (g.outcome b t r) ≡ true
  pub fired_not : is_firing (kept t r) ≡ false
  pub into : (x : Moment) → Contains b x → Contains c x
  pub entered : Contains c (After t r)
  pub from : (x : Moment) → Contains c x → Contains b x ⊎ (x ≡ After t r)
  pub waits : (q : List ℕ) → Contains (g.rules (After t r)) q → queued_after (After t r) q
  pub blank : (q : List ℕ) → Contains (g.rules (After t r)) q → kept_after (After t r) q ≡ beyond

-- the effect is withdrawn with all below it
pub record Withdraws (g : Revision) (b c : List Moment) (kept : Moment → List ℕ → Outcome) (t : Moment) (r : List ℕ) : Type 0 where
  pub fires_not : is_firing (g.outcome b t r) ≡ false
  pub fired : is_firing (kept t r) ≡ true
  pub out : (x : Moment) → Contains c x → Contains b x × (IsUnder (After t r) x → ⊥)
  pub rest : (x : Moment) → Contains b x → Contains c x ⊎ IsUnder (After t r) x

-- what is withdrawn, each once
pub record Goes (b : List Moment) (t : Moment) (r : List ℕ) (out : List Moment) : Type 0 where
  pub each : (x : Moment) → In x out ↔ (Contains b x × IsUnder (After t r) x)
  pub once : Distinct out

-- **One of the three.**
pub data Turns (g : Revision) (b c : List Moment) (kept kept_after : Moment → List ℕ → Outcome)
    (queued_after : Moment → List ℕ → Type 0) (t : Moment) (r : List ℕ) : Type 0 where
  staying : Stays g b c kept t r → Turns g b c kept kept_after queued_after t r
  entering : Enters g b c kept kept_after queued_after t r → Turns g b c kept kept_after queued_after t r
  withdrawing : Withdraws g b c kept t r → Turns g b c kept kept_after queued_after t r
