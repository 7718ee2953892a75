-- The step of a script with the timeline.
use Rattle.std.specs.Prelude.{◌≡◌, ℕ, ◌<◌, ◌≤◌, Bool, true, false, List, Option, None}
use Rattle.tmm_model.specs.declared.mode.Mode.TheVariants.{Timeline as Playing}
use Rattle.tmm_model.specs.declared.mode.ModeLine.TheVariants.{Timeline as TheTimeline}
use Rattle.tmm_model.specs.declared.refusal.Refusal.TheVariants.{LimitSize}
use Rattle.tmm_model.specs.declared.timeline.Timeline.{Timeline}
use Rattle.tmm_model.specs.declared.turn.Turn.{Turn}
use Rattle.tmm_model.specs.declared.turn.Turn.TheVariants.{Silent, Reply, Memory}
use Rattle.tmm_model.specs.Answers.{most_size}
use Rattle.tmm_model.specs.Maps.{TimeMap, built}
use Rattle.tmm_model.specs.Replies.{Refused, text_of}
use Rattle.tmm_model.specs.Standing.{Standing}
use Rattle.tmm_model.specs.Transcript.{Step}
use Rattle.belief_theory.specs.KeptLists.{IsKept}
use Rattle.mode_session.specs.ModeSteps.{Own, ModeStep}
use Rattle.replies.specs.Timelines.{timeline_text}
use Rattle.timeline.specs.Days.{played_size}
use Rattle.timeline.specs.Told.{IsTimeline}

-- What the line `timeline` of number k is answered over a map: its timeline, or that it is refused
-- for the limit on sizes where what occurs in it passes that.
pub data AnswersTimeline (m : TimeMap) (k : ℕ) (bytes : List ℕ) (refused : Bool) : Type 0 where
  is_told : (t : Timeline) → played_size m ≤ most_size → IsTimeline m t → bytes ≡ timeline_text k t → refused ≡ false → AnswersTimeline m k bytes refused
  is_large : most_size < played_size m → bytes ≡ text_of k (Refused LimitSize) → refused ≡ true → AnswersTimeline m k bytes refused

-- what a line of the mode's own is answered: `timeline` is the only one, and it leaves the list
abbrev pub TimelineOwn : Own Standing
TimelineOwn old k line TheTimeline bytes refused new = AnswersTimeline (built old) k bytes refused × (new ≡ old)
TimelineOwn old k line form bytes refused new = ⊥

-- **The step of a script with the timeline**: any other line is answered as without the mode.
abbrev pub TimelineStep : Standing → ℕ → List ℕ → Turn → Standing → Type 0
TimelineStep = ModeStep Playing TimelineOwn Step

-- the turn is a reply of these bytes, a refusal or none, or there was no memory for it
abbrev pub IsReply : List ℕ → Bool → Turn → Type 0
IsReply text is_refusal Silent = ⊥
IsReply text is_refusal Memory = Unit {0}
IsReply text is_refusal (Reply bytes refused) = (bytes.items ≡ text) × (refused ≡ is_refusal)

-- a map that a line may be answered on: nothing is pending, and its list is one that is kept
pub record IsReady {M : Type 0} (list : M → Standing) (pending : M → Option Standing) (core : M) : Type 0 where
  pub idle : pending core ≡ None
  pub kept : IsKept (list core)
