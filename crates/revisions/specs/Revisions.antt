-- What a revision of beliefs knows of the map before an edit and of the one after it, and the laws
-- that it stands on. Nothing here says what supports a fact.
use Rattle.std.specs.Prelude.{◌≡◌, ◌↔◌, ◌⊎◌, ℕ, ℤ, pos, ◌≤ℤ◌, ◌<ℤ◌, Bool, true, false, List}
use Rattle.std.specs.List.{Contains}
use Rattle.belief_theory.specs.Outcomes.{Outcome, fires, blocked, barred, beyond}
use Rattle.tmm_model.specs.Moments.{Moment, At, After}

-- whether the outcome is that the effect is believed
abbrev pub is_firing : Outcome → Bool
is_firing (fires ks) = true
is_firing (blocked place) = false
is_firing (barred place) = false
is_firing beyond = false

-- The map after the edit: its roots, its rules at an event, earliest dates, the outcome of a rule
-- at an event among given occurrences, and which occurrences that outcome rests on. What is
-- believed after the edit and before it; which decisions the map before had, and their outcomes;
-- which decisions the edit touches.
pub record Revision : Type 0 where
  pub roots : List Moment
  pub rules : Moment → List (List ℕ)
  pub early : Moment → ℤ
  pub outcome : List Moment → Moment → List ℕ → Outcome
  pub reads : Moment → List ℕ → Moment → Bool
  pub believed : List Moment
  pub before : List Moment
  pub was : Moment → List ℕ → Bool
  pub was_outcome : Moment → List ℕ → Outcome
  pub touched : Moment → List ℕ → Bool

-- x is an occurrence of the list after the edit
abbrev pub IsOf : Revision → Moment → Type 0
IsOf g (At p) = Contains g.roots (At p)
IsOf g (After t r) = IsOf g t × Contains (g.rules t) r

-- all of these occur in the list after the edit
abbrev pub AreOf : Revision → List Moment → Type 0
AreOf g b = (x : Moment) → Contains b x → IsOf g x

-- b and c have the same of the occurrences on which the outcome of r at t rests
abbrev pub AgreeFor : Revision → List Moment → List Moment → Moment → List ℕ → Type 0
AgreeFor g b c t r = (x : Moment) → g.early x ≤ℤ g.early t → g.reads t r x ≡ true → Contains b x ↔ Contains c x

-- x is believed after the edit exactly where it is a root, or its rule fires at its trigger
abbrev pub Belongs : Revision → Moment → Type 0
Belongs g (At p) = Contains g.roots (At p)
Belongs g (After t r) = Contains g.believed t × Contains (g.rules t) r × (is_firing (g.outcome g.believed t r) ≡ true)

-- x is newly believed
pub record IsNew (g : Revision) (x : Moment) : Type 0 where
  pub now : Contains g.believed x
  pub not_before : Contains g.before x → ⊥

-- x is no longer believed
pub record IsLost (g : Revision) (x : Moment) : Type 0 where
  pub before : Contains g.before x
  pub not_now : Contains g.believed x → ⊥

-- **The laws on which a revision stands.**
pub record IsLawful (g : Revision) : Type 0 where
  -- no occurrence is before 0, and an effect begins after its trigger
  pub not_before_start : (x : Moment) → IsOf g x → pos 0 ≤ℤ g.early x
  pub later : (t : Moment) (r : List ℕ) → IsOf g t → Contains (g.rules t) r → g.early t <ℤ g.early (After t r)
  -- an outcome rests on occurrences no later than its trigger alone, and of these on those that it
  -- reads
  pub rests : (b c : List Moment) → AreOf g b → AreOf g c
      → (t : Moment) (r : List ℕ) → IsOf g t → Contains (g.rules t) r → AgreeFor g b c t r → g.outcome b t r ≡ g.outcome c t r
  -- both maps believe what is right
  pub right : (x : Moment) → Contains g.believed x ↔ Belongs g x
  pub was_right : (t : Moment) (r : List ℕ) → Contains g.before (After t r) ↔ ((g.was t r ≡ true) × (is_firing (g.was_outcome t r) ≡ true))
  pub was_live : (t : Moment) (r : List ℕ) → g.was t r ≡ true → Contains g.before t
  -- a new decision is touched, and one that reads what is newly or no longer believed
  pub new_touched : (t : Moment) (r : List ℕ) → g.was t r ≡ false → g.touched t r ≡ true
  pub moved_touched : (t : Moment) (r : List ℕ) (x : Moment) → Contains g.believed t → Contains (g.rules t) r → IsOf g x
      → IsNew g x ⊎ IsLost g x → g.reads t r x ≡ true → g.touched t r ≡ true
