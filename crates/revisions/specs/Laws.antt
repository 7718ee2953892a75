-- What is proved of the loop, over any lawful revision.
use Rattle.std.specs.Prelude.{◌≡◌, ◌↔◌, ℕ, ◌≤◌, ℤ, negsuc, ◌≤ℤ◌, Bool, true, false, List, [], ◌∷◌, length}
use Rattle.std.specs.List.{Contains, count_by}
use Rattle.belief_theory.specs.Outcomes.{Outcome}
use Rattle.tmm_model.specs.Moments.{Moment, After}
use Rattle.list_theory.proofs.Elements.{In}
use Rattle.list_theory.proofs.Distinct.{Distinct}
use Rattle.revisions.specs.Revisions.{Revision, IsLawful, IsOf, IsNew, IsLost}
use Rattle.revisions.specs.Keeping.{IsKeeping, IsLeast, IsTold}
use Rattle.revisions.specs.Steps.{Makes, Turns}
use Rattle.revisions.specs.Seeds.{IsSeeded}

-- up to the date from which all wait, the live nodes are those believed in the end
abbrev pub NodesAreFinal : Type 0
NodesAreFinal =
    (g : Revision) (b : List Moment) (kept : Moment → List ℕ → Outcome) (taken : List (Moment × List ℕ)) (d e : ℤ)
    (queue : List (Moment × List ℕ))
    → IsLawful g → IsKeeping g b kept (λ t r. In (t, r) queue) taken d
    → ((t : Moment) (r : List ℕ) → In (t, r) queue → e ≤ℤ g.early t)
    → (x : Moment) → IsOf g x → g.early x ≤ℤ e → Contains b x ↔ Contains g.believed x

-- where none waits, the live nodes are those believed, and the rows have their outcomes
abbrev pub EndIsBelieved : Type 0
EndIsBelieved =
    (g : Revision) (b : List Moment) (kept : Moment → List ℕ → Outcome) (taken : List (Moment × List ℕ)) (d : ℤ)
    → IsLawful g → IsKeeping g b kept (λ t r. In {X = Moment × List ℕ} (t, r) []) taken d
    → ((x : Moment) → Contains b x ↔ Contains g.believed x)
    × ((t : Moment) (r : List ℕ) → Contains b t → Contains (g.rules t) r → kept t r ≡ g.outcome g.believed t r)

-- the decisions after the edit, each once
pub record AreDecisions (g : Revision) (all : List (Moment × List ℕ)) : Type 0 where
  pub each : (t : Moment) (r : List ℕ) → In (t, r) all ↔ (Contains g.believed t × Contains (g.rules t) r)
  pub once : Distinct all

-- at any time no more decisions were made than are touched
abbrev pub MadeAreTouched : Type 0
MadeAreTouched =
    (g : Revision) (b : List Moment) (kept : Moment → List ℕ → Outcome) (queue taken all : List (Moment × List ℕ)) (d : ℤ)
    → IsKeeping g b kept (λ t r. In (t, r) queue) taken d → AreDecisions g all
    → length taken ≤ count_by (λ e. g.touched e.0 e.1) all

-- the test tells which decisions are new or have another outcome
pub record TellsChanged (g : Revision) (test : Moment × List ℕ → Bool) : Type 0 where
  pub unchanged : (t : Moment) (r : List ℕ) → g.was t r ≡ true → g.was_outcome t r ≡ g.outcome g.believed t r → test (t, r) ≡ false

-- where none waits, all decisions that are new or have another outcome were made
abbrev pub ChangedWereMade : Type 0
ChangedWereMade =
    (g : Revision) (b : List Moment) (kept : Moment → List ℕ → Outcome) (taken all : List (Moment × List ℕ)) (d : ℤ) (test : Moment × List ℕ → Bool)
    → IsLawful g → IsKeeping g b kept (λ t r. In {X = Moment × List ℕ} (t, r) []) taken d → AreDecisions g all → TellsChanged g test
    → count_by test all ≤ length taken

-- **A turn keeps what the loop keeps.**
abbrev pub TurnsKeep : Type 0
TurnsKeep =
    (g : Revision) (b c : List Moment) (kept kept_after : Moment → List ℕ → Outcome) (queue queue_after taken : List (Moment × List ℕ)) (d : ℤ)
    (t : Moment) (r : List ℕ)
    → IsLawful g → IsKeeping g b kept (λ u q. In (u, q) queue) taken d → IsLeast g (λ u q. In (u, q) queue) t r
    → Makes g b c kept kept_after (λ u q. In (u, q) queue) (λ u q. In (u, q) queue_after) t r
    → Turns g b c kept kept_after (λ u q. In (u, q) queue_after) t r
    → IsKeeping g c kept_after (λ u q. In (u, q) queue_after) ((t, r) ∷ taken) (g.early t)

-- The loop begins with what it keeps.
abbrev pub SeedsKeep : Type 0
SeedsKeep =
    (g : Revision) (b : List Moment) (kept : Moment → List ℕ → Outcome) (queue : List (Moment × List ℕ))
    → IsLawful g → IsSeeded g b kept (λ t r. In (t, r) queue) → IsKeeping g b kept (λ t r. In (t, r) queue) [] (negsuc 0)

-- what is told at the end is what newly or no longer is believed
abbrev pub ToldIsChanged : Type 0
ToldIsChanged =
    (g : Revision) (b entered left : List Moment) (kept : Moment → List ℕ → Outcome) (taken : List (Moment × List ℕ)) (d : ℤ)
    → IsLawful g → IsKeeping g b kept (λ t r. In {X = Moment × List ℕ} (t, r) []) taken d → IsTold g b entered left
    → ((t : Moment) (r : List ℕ) → In (After t r) entered ↔ IsNew g (After t r))
    × ((t : Moment) (r : List ℕ) → In (After t r) left ↔ IsLost g (After t r))
