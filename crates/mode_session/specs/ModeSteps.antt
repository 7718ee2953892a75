-- The step of a mode: its own lines beside all others.
use Rattle.std.specs.Prelude.{◌≡◌, ℕ, nat_le, Bool, cond, List, length, Option, Some, None}
use Rattle.tmm_model.specs.declared.mode.Mode.{Mode}
use Rattle.tmm_model.specs.declared.mode.ModeLine.{ModeLine}
use Rattle.tmm_model.specs.declared.turn.Turn.{Turn}
use Rattle.tmm_model.specs.declared.turn.Turn.TheVariants.{Silent, Reply, Memory}
use Rattle.tmm_model.specs.Modes.{own_form}
use Rattle.tmm_model.specs.Transcript.{most_bytes}

-- what a line says as one of the mode's own: nothing where it has more than 400 bytes
abbrev pub own_line : Mode → List ℕ → Option ModeLine
own_line mode line = cond (nat_le (length line) most_bytes) (own_form mode line) None

-- From a state `own` tells of the line of a number, which says this, the bytes of a reply, whether
-- it is a refusal, and the state that is left.
abbrev pub Own : Type 0 → Type 1
Own S = S → ℕ → List ℕ → ModeLine → List ℕ → Bool → S → Type 0

-- A line of the mode's own has a reply; it may be answered `memory`, and then nothing changes.
abbrev pub OwnStep : {S : Type 0} → Own S → S → ℕ → List ℕ → ModeLine → Turn → S → Type 0
OwnStep own old k line form Silent new = ⊥
OwnStep own old k line form Memory new = new ≡ old
OwnStep own old k line form (Reply bytes refused) new = own old k line form bytes.items refused new

module _ {S : Type 0} (mode : Mode) (own : Own S) (other : S → ℕ → List ℕ → Turn → S → Type 0) where
  -- the step of a line that says this as one of the mode's own, or is none of these
  abbrev pub StepAs : Option ModeLine → S → ℕ → List ℕ → Turn → S → Type 0
  StepAs (Some form) old k line turn new = OwnStep own old k line form turn new
  StepAs None old k line turn new = other old k line turn new

  -- **The step of a mode.** A line of at most 400 bytes that is one of the mode's own is answered
  -- as what it says, and every other line by the step `other`.
  abbrev pub ModeStep : S → ℕ → List ℕ → Turn → S → Type 0
  ModeStep old k line turn new = StepAs (own_line mode line) old k line turn new
