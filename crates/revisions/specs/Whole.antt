-- A whole revision: from the seeds, turn by turn, until none waits.
use Rattle.std.specs.Prelude.{◌≡◌, ◌↔◌, ◌⊎◌, ℕ, ◌≤◌, true, false, List, [], ◌∷◌, ◌++◌, length, sum_by}
use Rattle.std.specs.List.{Contains}
use Rattle.tmm_model.specs.declared.premise.Edit.{Edit}
use Rattle.tmm_model.specs.Answers.{weight, size}
use Rattle.belief_theory.specs.Outcomes.{Outcome, beyond, outcome}
use Rattle.tmm_model.specs.Beliefs.{rules_at}
use Rattle.tmm_model.specs.Edits.{next_list}
use Rattle.tmm_model.specs.Maps.{built}
use Rattle.tmm_model.specs.Moments.{Moment, After}
use Rattle.list_theory.specs.WellNamed.{IsSound}
use Rattle.belief_theory.specs.Right.{Occurs}
use Rattle.tmm_model.specs.Standing.{Standing, far_in}
use Rattle.belief_theory.specs.Touched.{is_decision, is_touched, touched}
use Rattle.list_theory.proofs.Elements.{In}
use Rattle.list_theory.proofs.Distinct.{Distinct}
use Rattle.spots.specs.OfLists.{map_of}
use Rattle.revisions.specs.Revisions.{Revision}
use Rattle.revisions.specs.Keeping.{IsLeast}
use Rattle.revisions.specs.Steps.{Makes, Stays, Enters, Withdraws, Goes}
use Rattle.revisions.specs.Counted.{changed, AreSeeds}
use Rattle.revisions.specs.Maps.{revision}

-- the live nodes, the kept outcomes, what waits, what was made, and what was told
pub record State : Type 0 where
  pub nodes : List Moment
  pub kept : Moment → List ℕ → Outcome
  pub queue : List (Moment × List ℕ)
  pub taken : List (Moment × List ℕ)
  pub entered : List Moment
  pub left : List Moment

-- the decision waits
abbrev pub Waiting : State → Moment → List ℕ → Type 0
Waiting s t r = In (t, r) s.queue

-- the turn's kind, with what it tells
pub data Tells (g : Revision) (old new : State) (t : Moment) (r : List ℕ) : Type 0 where
  nothing : Stays g old.nodes new.nodes old.kept t r → new.entered ≡ old.entered → new.left ≡ old.left → Tells g old new t r
  an_entry : Enters g old.nodes new.nodes old.kept new.kept (Waiting new) t r → new.entered ≡ After t r ∷ old.entered → new.left ≡ old.left → Tells g old new t r
  a_leave : (out : List Moment) → Withdraws g old.nodes new.nodes old.kept t r → Goes old.nodes t r out → new.entered ≡ old.entered → new.left ≡ out ++ old.left → Tells g old new t r

-- a turn that makes the decision of r at t
pub record IsTurn (g : Revision) (old new : State) : Type 0 where
  pub event : Moment
  pub rule : List ℕ
  pub first : IsLeast g (Waiting old) event rule
  pub makes : Makes g old.nodes new.nodes old.kept new.kept (Waiting old) (Waiting new) event rule
  pub tells : Tells g old new event rule
  pub taken : new.taken ≡ (event, rule) ∷ old.taken

-- turns lead from one state to another
pub data Reaches (g : Revision) (old : State) : State → Type 0 where
  there : Reaches g old old
  further : (mid new : State) → Reaches g old mid → IsTurn g mid new → Reaches g old new

-- the state with which a revision begins
pub record Begins (old new : Standing) (s : State) : Type 0 where
  pub seeds : AreSeeds old new s.nodes
  pub old_rows : (t : Moment) (r : List ℕ) → Contains s.nodes t → Contains (rules_at new t) r → is_decision (built old) (t, r) ≡ true
      → s.kept t r ≡ outcome old (far_in old.premises) (built old).believed t r
  pub new_rows : (t : Moment) (r : List ℕ) → Contains s.nodes t → Contains (rules_at new t) r → is_decision (built old) (t, r) ≡ false → s.kept t r ≡ beyond
  -- all that is touched for these nodes waits, and what waits is touched for these nodes or in the
  -- end
  pub all : (t : Moment) (r : List ℕ) → Contains s.nodes t → Contains (rules_at new t) r → is_touched (built old) (map_of new s.nodes) (t, r) ≡ true → Waiting s t r
  pub only : (t : Moment) (r : List ℕ) → Waiting s t r
      → Contains s.nodes t × Contains (rules_at new t) r
      × (is_touched (built old) (map_of new s.nodes) (t, r) ≡ true ⊎ is_touched (built old) (built new) (t, r) ≡ true)
  pub none_taken : s.taken ≡ []
  pub none_entered : s.entered ≡ []
  -- what no longer occurs has left
  pub gone : (t : Moment) (r : List ℕ) → In (After t r) s.left ↔ (Contains (built old).believed (After t r) × (Occurs new (After t r) → ⊥))
  pub gone_once : Distinct s.left
  pub gone_derived : (x : Moment) → In x s.left → (t : Moment) × (r : List ℕ) × (x ≡ After t r)

-- what holds at the end of a revision
pub record Ends (old new : Standing) (s : State) : Type 0 where
  -- the nodes are what the new list's map believes, and each row has its outcome there
  pub believed : (x : Moment) → Contains s.nodes x ↔ Contains (built new).believed x
  pub rows : (t : Moment) (r : List ℕ) → Contains s.nodes t → Contains (rules_at new t) r → s.kept t r ≡ outcome new (far_in new.premises) (built new).believed t r
  -- what was told is what changed, each once
  pub entered : (t : Moment) (r : List ℕ) → In (After t r) s.entered ↔ (Contains (built new).believed (After t r) × (Contains (built old).believed (After t r) → ⊥))
  pub left : (t : Moment) (r : List ℕ) → In (After t r) s.left ↔ (Contains (built old).believed (After t r) × (Contains (built new).believed (After t r) → ⊥))
  pub entered_once : Distinct s.entered
  pub left_once : Distinct s.left
  -- all that the edit changes was made
  pub at_least : changed old new ≤ length s.taken

-- what holds at any time
pub record Runs (old new : Standing) (s : State) : Type 0 where
  pub at_most : length s.taken ≤ touched old new
  -- what entered is no more than what the new list's map believes
  pub small : sum_by (weight (built new)) s.entered ≤ size (built new)

-- **A whole revision is right.**
abbrev pub RevisionsAreRight : Type 0
RevisionsAreRight =
    (old : Standing) (edit : Edit) → IsSound old → IsSound (next_list old edit)
    → (first last : State) → Begins old (next_list old edit) first
    → Reaches (revision (built old) (built (next_list old edit))) first last
    → Runs old (next_list old edit) last × (last.queue ≡ [] → Ends old (next_list old edit) last)
