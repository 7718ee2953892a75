-- What becomes of a supposition that is given up, and of one that is kept.
use Rattle.std.specs.Prelude.{◌≡◌, ◌≢◌, ℕ, ◌+◌, ◌<◌, false, List, [], ◌∷◌, ◌++◌, length, decimal, Some}
use Rattle.tmm_model.specs.declared.mode.Mode.TheVariants.{Suppose as Supposing}
use Rattle.tmm_model.specs.declared.mode.ModeCause.TheVariants.{LimitSuppose}
use Rattle.tmm_model.specs.declared.mode.ModeLine.{ModeLine}
use Rattle.tmm_model.specs.declared.mode.ModeLine.TheVariants.{Suppose, Keep, Drop}
use Rattle.tmm_model.specs.declared.turn.Turn.{Turn}
use Rattle.tmm_model.specs.declared.turn.Turn.TheVariants.{Silent, Reply, Memory}
use Rattle.tmm_model.specs.Modes.{own_no}
use Rattle.tmm_model.specs.Runs.{Run, turn_text, is_refused, is_memory}
use Rattle.mode_session.specs.ModeSteps.{own_line}
use Rattle.suppose.specs.Worlds.{World, SupposeStep}

-- the line of number k says this as one of the mode's own, and is done
pub record IsDone (old : World) (k : ℕ) (form : ModeLine) (new : World) : Type 0 where
  pub line : List ℕ
  pub turn : Turn
  pub says : own_line Supposing line ≡ Some form
  pub step : SupposeStep old k line turn new
  pub not_refused : is_refused turn ≡ false
  pub not_memory : is_memory turn ≡ false

-- a step that leaves more maps below the top than these
abbrev pub Above : ℕ → World → ℕ → List ℕ → Turn → World → Type 0
Above depth old k line turn new = SupposeStep old k line turn new × (depth < length new.below)

-- **What is given up leaves nothing.** A supposition is begun, lines come that never go below it,
-- and the line that ends it gives it up: then the world is as it was before.
abbrev pub DroppedLeaveNothing : Type 0
DroppedLeaveNothing =
    (w begun ended end : World) (k j n : ℕ) (lines : List (List ℕ)) (turns : List Turn)
    → IsDone w k Suppose begun
    → Run (Above (length w.below)) begun j lines turns ended
    → IsDone ended n Drop end → length end.below ≡ length w.below
    → end ≡ w

-- such a step that is not refused for the limit on suppositions
abbrev pub AboveUnlimited : ℕ → World → ℕ → List ℕ → Turn → World → Type 0
AboveUnlimited depth old k line turn new = Above depth old k line turn new × (turn_text k turn ≢ own_no k LimitSuppose)

-- the turns of lines of these numbers are the same but for the numbers, with which a reply begins
abbrev pub SameTurn : ℕ → Turn → ℕ → Turn → Type 0
SameTurn k Silent i Silent = Unit {0}
SameTurn k Memory i Memory = Unit {0}
SameTurn k (Reply bytes refused) i (Reply others also) =
    (rest : List ℕ) × (bytes.items ≡ decimal k ++ rest) × (others.items ≡ decimal i ++ rest) × (also ≡ refused)
SameTurn k one i other = ⊥

-- so are the turns of all lines after these numbers
abbrev pub SameTurns : ℕ → List Turn → ℕ → List Turn → Type 0
SameTurns k [] i [] = Unit {0}
SameTurns k (turn ∷ turns) i (other ∷ others) = SameTurn (k + 1) turn (i + 1) other × SameTurns (k + 1) turns (i + 1) others
SameTurns k turns i others = ⊥

-- **What is kept might have been no supposition.** A supposition is begun, lines come that never go
-- below it and of which none is refused for the limit on suppositions, and the line that ends it
-- takes it over: then the world is one that these lines leave by themselves, and their replies are
-- the same there but for their numbers.
abbrev pub KeptAreAsAlone : Type 0
KeptAreAsAlone =
    (w begun ended end : World) (k j n i : ℕ) (lines : List (List ℕ)) (turns : List Turn)
    → IsDone w k Suppose begun
    → Run (AboveUnlimited (length w.below)) begun j lines turns ended
    → IsDone ended n Keep end → length end.below ≡ length w.below
    → (alone : List Turn) × Run SupposeStep w i lines alone end × SameTurns j turns i alone
