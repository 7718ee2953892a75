-- Which decisions are marked where a token enters or tokens leave: those that read one of them, on
-- events no earlier.
use Rattle.std.specs.Prelude.{◌≡◌, ◌⊎◌, ℕ, ℤ, ◌≤ℤ◌, true, List}
use Rattle.std.specs.List.{Contains}
use Rattle.belief_theory.specs.Outcomes.{Outcome}
use Rattle.tmm_model.specs.Moments.{Moment, After}
use Rattle.list_theory.proofs.Elements.{In}
use Rattle.revisions.specs.Revisions.{Revision, IsLawful}
use Rattle.revisions.specs.Keeping.{IsKeeping, IsLeast}
use Rattle.revisions.specs.Steps.{IsUnder, Differs, IsMarked, Makes, Enters, Withdraws, Stays, Turns}

-- the decision reads an occurrence that moved, and is no earlier
abbrev pub ReadsMoved : Revision → (Moment → Type 0) → Moment → List ℕ → Type 0
ReadsMoved g moved u q = (x : Moment) × moved x × (g.reads u q x ≡ true) × (g.early x ≤ℤ g.early u)

-- What a turn does in the code's terms. The row of r at t gets the outcome; other rows keep theirs;
-- each decision that waited waits on where its event stays; besides these wait those that read what
-- moved, and those on a new event.
pub record Marks (g : Revision) (b c : List Moment) (kept kept_after : Moment → List ℕ → Outcome)
    (queued queued_after : Moment → List ℕ → Type 0) (t : Moment) (r : List ℕ) (moved : Moment → Type 0) : Type 0 where
  pub now : kept_after t r ≡ g.outcome b t r
  pub others : (u : Moment) (q : List ℕ) → Contains b u → Contains c u → Contains (g.rules u) q → Differs t r u q → kept_after u q ≡ kept u q
  pub stay : (u : Moment) (q : List ℕ) → queued u q → Contains c u → Differs t r u q → queued_after u q
  -- each that reads what moved waits, but where its outcome is the same
  pub all : (u : Moment) (q : List ℕ) → Contains c u → Contains (g.rules u) q → ReadsMoved g moved u q → queued_after u q ⊎ (g.outcome c u q ≡ g.outcome b u q)
  -- and nothing else but what may be marked
  pub come : (u : Moment) (q : List ℕ) → queued_after u q
      → (queued u q × Contains c u × Differs t r u q)
      ⊎ ((Contains c u × Contains (g.rules u) q × (ReadsMoved g moved u q ⊎ ((u ≡ After t r) × moved u))) ⊎ IsMarked g c t u q)

-- what moves: the effect alone, or all of it that is live, or nothing
abbrev pub Moves : Revision → List Moment → (Moment → List ℕ → Outcome) → Moment → List ℕ → List Moment → (Moment → List ℕ → Outcome) → (Moment → List ℕ → Type 0) → (Moment → Type 0) → Type 0
Moves g b kept t r c kept_after queued_after moved =
    (Stays g b c kept t r × ((x : Moment) → moved x → ⊥))
    ⊎ ((Enters g b c kept kept_after queued_after t r × ((x : Moment) → moved x → x ≡ After t r) × moved (After t r))
    ⊎ (Withdraws g b c kept t r × ((x : Moment) → moved x → Contains b x × IsUnder (After t r) x) × ((x : Moment) → Contains b x → IsUnder (After t r) x → moved x)))

-- **So marked, a turn is one that keeps what the loop keeps.**
abbrev pub MarksMake : Type 0
MarksMake =
    (g : Revision) (b c : List Moment) (kept kept_after : Moment → List ℕ → Outcome) (queue queue_after taken : List (Moment × List ℕ)) (d : ℤ)
    (t : Moment) (r : List ℕ) (moved : List Moment)
    → IsLawful g → IsKeeping g b kept (λ u q. In (u, q) queue) taken d → IsLeast g (λ u q. In (u, q) queue) t r
    → Marks g b c kept kept_after (λ u q. In (u, q) queue) (λ u q. In (u, q) queue_after) t r (λ x. In x moved)
    → Moves g b kept t r c kept_after (λ u q. In (u, q) queue_after) (λ x. In x moved)
    → Makes g b c kept kept_after (λ u q. In (u, q) queue) (λ u q. In (u, q) queue_after) t r
    × Turns g b c kept kept_after (λ u q. In (u, q) queue_after) t r
