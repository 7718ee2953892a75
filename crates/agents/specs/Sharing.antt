-- The step of a script of several agents.
use Rattle.std.specs.Prelude.{◌≡◌, ℕ, Bool, true, false, List, length, drop, Option, Some, None}
use Rattle.tmm_model.specs.declared.changes.Taken.{Taken}
use Rattle.tmm_model.specs.declared.line.Line.TheVariants.{Change}
use Rattle.tmm_model.specs.declared.mode.Mode.TheVariants.{Agents as Sharing}
use Rattle.tmm_model.specs.declared.mode.ModeCause.{ModeCause}
use Rattle.tmm_model.specs.declared.mode.ModeCause.TheVariants.{Agent as NoAgent}
use Rattle.tmm_model.specs.declared.mode.ModeLine.TheVariants.{Hold, Commit, Discard}
use Rattle.tmm_model.specs.declared.premise.Edit.{Edit}
use Rattle.tmm_model.specs.declared.refusal.Refusal.{Refusal}
use Rattle.tmm_model.specs.declared.refusal.Refusal.TheVariants.{Form}
use Rattle.tmm_model.specs.declared.turn.Turn.{Turn}
use Rattle.tmm_model.specs.declared.turn.Turn.TheVariants.{Silent, Reply as ReplyOf, Memory}
use Rattle.tmm_model.specs.declared.version.Version.TheVariants.{Two}
use Rattle.tmm_model.specs.Lines.{Reads, words}
use Rattle.tmm_model.specs.Modes.{own_ok, own_no}
use Rattle.tmm_model.specs.Replies.{Refused, text_of}
use Rattle.tmm_model.specs.Transcript.{IsReadAs, Step}
use Rattle.replies.specs.Batches.{held_text, batch_text, no_batch_text}
use Rattle.mode_session.specs.ModeSteps.{Own, ModeStep}
use Rattle.agents.specs.declared.batches.Held.{Held}
use Rattle.agents.specs.Worlds.{World}
use Rattle.agents.specs.Batches.{held_by, with_held, without, hold_cause}
use Rattle.agents.specs.Commits.{list_after, AcceptedInTurn, RefusedAt}

-- ---- the worlds that an agent's lines leave

-- one more edit held for an agent
abbrev pub holding : World → List ℕ → Held → World
holding w agent held = record { list = w.list; batches = with_held w.batches agent held }

-- nothing held for an agent
abbrev pub discarded : World → List ℕ → World
discarded w agent = record { list = w.list; batches = without w.batches agent }

-- the edits of an agent made, and nothing held for it
abbrev pub committed : World → List ℕ → World
committed w agent = record { list = list_after w.list (held_by w.batches agent); batches = without w.batches agent }

-- ---- an agent's lines

-- A line that says an edit: it is held, and told is how many are now held for the agent; or it is
-- refused where the agent may hold no further one.
abbrev pub Holds : World → ℕ → List ℕ → Edit → Option ModeCause → List ℕ → Bool → World → Type 0
Holds old k agent edit None bytes refused new =
    (bytes ≡ held_text k (length (held_by new.batches agent))) × (refused ≡ false) × (new ≡ holding old agent (record { line = k; edit = edit }))
Holds old k agent edit (Some cause) bytes refused new = (bytes ≡ own_no k cause) × (refused ≡ true) × (new ≡ old)

-- What a line that holds an edit is answered: where these words say an edit of version 2, it is
-- held or refused, and else it is refused for its form.
pub data HoldAnswers (old : World) (k : ℕ) (agent : List ℕ) (behind : List (List ℕ)) (bytes : List ℕ) (refused : Bool) (new : World) : Type 0 where
  for_form : ((edit : Edit) → Reads Two behind (Change edit) → ⊥) → bytes ≡ text_of k (Refused Form) → refused ≡ true → new ≡ old → HoldAnswers old k agent behind bytes refused new
  for_edit : (edit : Edit) → Reads Two behind (Change edit) → Holds old k agent edit (hold_cause old.batches agent) bytes refused new → HoldAnswers old k agent behind bytes refused new

-- What a commit is answered: where each held edit is accepted in turn, all are made; else none is,
-- and the first that is refused is told. Nothing is held for the agent after either.
pub data CommitAnswers (old : World) (k : ℕ) (agent bytes : List ℕ) (refused : Bool) (new : World) : Type 0 where
  for_all : (all : List Taken) → AcceptedInTurn old.list (held_by old.batches agent) all → bytes ≡ batch_text k all → refused ≡ false → new ≡ committed old agent → CommitAnswers old k agent bytes refused new
  for_none : (line : ℕ) (refusal : Refusal) → RefusedAt old.list (held_by old.batches agent) line refusal → bytes ≡ no_batch_text k line refusal → refused ≡ true → new ≡ discarded old agent → CommitAnswers old k agent bytes refused new

-- a discard forgets what the agent holds
abbrev pub DiscardAnswers : World → ℕ → List ℕ → List ℕ → Bool → World → Type 0
DiscardAnswers old k agent bytes refused new = (bytes ≡ own_ok k) × (refused ≡ false) × (new ≡ discarded old agent)

-- what an agent's line is answered, and the world that it leaves
abbrev pub SharingOwn : Own World
SharingOwn old k line (Hold agent rest) bytes refused new = HoldAnswers old k agent (words (drop rest line)) bytes refused new
SharingOwn old k line (Commit agent) bytes refused new = CommitAnswers old k agent bytes refused new
SharingOwn old k line (Discard agent) bytes refused new = DiscardAnswers old k agent bytes refused new
SharingOwn old k line form bytes refused new = ⊥

-- ---- lines without an agent

-- the line of number k is refused for this cause, or there was no memory to say so
abbrev pub IsRefused : ℕ → ModeCause → Turn → Type 0
IsRefused k cause Silent = ⊥
IsRefused k cause Memory = Unit {0}
IsRefused k cause (ReplyOf bytes refused) = (bytes.items ≡ own_no k cause) × (refused ≡ true)

-- A line without an agent changes nothing. One that says an edit is refused for that, and any other
-- is answered as in a script without agents.
pub data SharingOther (old : World) (k : ℕ) (line : List ℕ) (turn : Turn) (new : World) : Type 0 where
  for_change : (edit : Edit) → IsReadAs old.list.version line (Change edit) → IsRefused k NoAgent turn → new ≡ old → SharingOther old k line turn new
  for_other : ((edit : Edit) → IsReadAs old.list.version line (Change edit) → ⊥) → Step old.list k line turn old.list → new ≡ old → SharingOther old k line turn new

-- ---- all lines

-- **The step of a script of several agents.**
abbrev pub SharingStep : World → ℕ → List ℕ → Turn → World → Type 0
SharingStep = ModeStep Sharing SharingOwn SharingOther
