-- What a line that asks for repairs is answered.
use Rattle.std.specs.Prelude.{◌≡◌, ℕ, Bool, true, false, List, Option, Some, None}
use Rattle.tmm_model.specs.declared.fix.Fix.{Fix}
use Rattle.tmm_model.specs.declared.mode.Mode.TheVariants.{Repairs as Mending}
use Rattle.tmm_model.specs.declared.mode.ModeLine.TheVariants.{Repairs}
use Rattle.tmm_model.specs.declared.refusal.Refusal.{Refusal}
use Rattle.tmm_model.specs.declared.turn.Turn.{Turn}
use Rattle.tmm_model.specs.Replies.{Refused, text_of}
use Rattle.tmm_model.specs.Sorts.{sort_in}
use Rattle.tmm_model.specs.Standing.{Standing}
use Rattle.tmm_model.specs.Transcript.{Step}
use Rattle.tmm_model.specs.Verdicts.{Cause, told_cause, name_cause}
use Rattle.mode_session.specs.ModeSteps.{Own, ModeStep}
use Rattle.replies.specs.Fixes.{repairs_text}
use Rattle.repairs.specs.Repairs.{is_protection, AreRepairs}

-- why a name is not that of a protection
abbrev pub protection_cause : Standing → List ℕ → Option Cause
protection_cause s name = name_cause (sort_in s.premises name) name is_protection

-- the line of number k asks for the repairs of this name: it is refused for the cause against the
-- name, and where there is none it is answered by the repairs
abbrev pub TellsRepairs : Standing → ℕ → List ℕ → Option Cause → List ℕ → Bool → Type 0
TellsRepairs s k name (Some cause) bytes refused =
    (refusal : Refusal) × (told_cause refusal ≡ Some cause) × (bytes ≡ text_of k (Refused refusal)) × (refused ≡ true)
TellsRepairs s k name None bytes refused =
    (fixes : List Fix) × AreRepairs s name fixes × (bytes ≡ repairs_text k fixes) × (refused ≡ false)

-- what a line of the mode's own is answered, and the list that it leaves: the same
abbrev pub RepairsOwn : Own Standing
RepairsOwn old k line (Repairs name) bytes refused new = TellsRepairs old k name (protection_cause old name) bytes refused × (new ≡ old)
RepairsOwn old k line form bytes refused new = ⊥

-- **The step of a script that asks for repairs.** Any other line is answered as without the mode.
abbrev pub RepairsStep : Standing → ℕ → List ℕ → Turn → Standing → Type 0
RepairsStep = ModeStep Mending RepairsOwn Step
