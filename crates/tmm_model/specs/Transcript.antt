-- What every line of a script is answered, and what it leaves of the standing list.
use Rattle.std.specs.Prelude.{◌≡◌, ℕ, ◌≤◌, ◌<◌, List, ℤ, None, length}
use Rattle.tmm_model.specs.declared.limits.TheConstants.{LONGEST_LINE}
use Rattle.tmm_model.specs.declared.line.Line.{Line}
use Rattle.tmm_model.specs.declared.line.Line.TheVariants.{Silent, Change, Question}
use Rattle.tmm_model.specs.declared.line.Query.{Query}
use Rattle.tmm_model.specs.declared.premise.Edit.{Edit}
use Rattle.tmm_model.specs.declared.premise.Edit.TheVariants.{Add}
use Rattle.tmm_model.specs.declared.premise.Premise.{Premise}
use Rattle.tmm_model.specs.declared.refusal.Refusal.{Refusal}
use Rattle.tmm_model.specs.declared.refusal.Refusal.TheVariants.{LimitLine, Form, Cycle, LimitSize}
use Rattle.tmm_model.specs.declared.turn.Turn.{Turn}
use Rattle.tmm_model.specs.declared.turn.Turn.TheVariants.{Silent as NoReply, Reply as ReplyOf, Memory}
use Rattle.tmm_model.specs.declared.version.Version.{Version}
use Rattle.tmm_model.specs.declared.walk.WalkStep.{WalkStep}
use Rattle.tmm_model.specs.Answers.{size, most_size}
use Rattle.tmm_model.specs.Changes.{changes, delta_of}
use Rattle.tmm_model.specs.Cycles.{IsCycleOf}
use Rattle.tmm_model.specs.Edits.{next_list}
use Rattle.tmm_model.specs.Kept.{IsAccepted}
use Rattle.tmm_model.specs.Lines.{ReadsLine}
use Rattle.tmm_model.specs.Maps.{built}
use Rattle.tmm_model.specs.Questions.{query_cause, Answers}
use Rattle.tmm_model.specs.Replies.{Reply, Accepted, Refused, text_of, is_refusal}
use Rattle.tmm_model.specs.Standing.{Standing, IsConsistent}
use Rattle.tmm_model.specs.Verdicts.{list_cause, Tells}

-- a longer line is refused for its length
abbrev pub most_bytes : ℕ
most_bytes = LONGEST_LINE

-- ---- edits

-- the premise that an edit adds closes a cycle of this sum and these steps
abbrev pub ClosesBy : List Premise → Edit → ℤ → List WalkStep → Type 0
ClosesBy premises (Add premise) sum steps = IsCycleOf premises premise sum steps
ClosesBy premises edit sum steps = ⊥

-- no cause among names and counts stands against the edit, and no dates satisfy what it leaves:
-- this cycle shows it
pub record IsCyclic (old : Standing) (edit : Edit) (sum : ℤ) (steps : List WalkStep) : Type 0 where
  pub no_cause : list_cause old edit ≡ None
  pub no_dates : IsConsistent (next_list old edit).premises → ⊥
  pub cycle : ClosesBy old.premises edit sum steps

-- there is no such cause, some dates satisfy what the edit leaves, and the map is too large then
pub record IsOversized (old : Standing) (edit : Edit) : Type 0 where
  pub no_cause : list_cause old edit ≡ None
  pub dates : IsConsistent (next_list old edit).premises
  pub large : most_size < size (built (next_list old edit))

-- **Why an edit is refused**: for the first cause among names and counts; where there is none, for
-- a cycle; where there is none of these, for the size of the map.
abbrev pub RefusesEdit : Standing → Edit → Refusal → Type 0
RefusesEdit old edit (Cycle sum steps) = IsCyclic old edit sum steps.items
RefusesEdit old edit LimitSize = IsOversized old edit
RefusesEdit old edit refusal = Tells refusal (list_cause old edit)

-- what an edit may be answered, and the list that it leaves: the next one where it is accepted,
-- with what that changes, and else the old one
abbrev pub AnswersEdit : Standing → Edit → Reply → Standing → Type 0
AnswersEdit old edit (Accepted told) new = IsAccepted old edit × (delta_of told ≡ changes old new) × (new ≡ next_list old edit)
AnswersEdit old edit (Refused refusal) new = RefusesEdit old edit refusal × (new ≡ old)
AnswersEdit old edit reply new = ⊥

-- ---- questions

-- what a question may be answered: the first cause against it, and where there is none, what the
-- map answers
abbrev pub AnswersQuery : Standing → Query → Reply → Type 0
AnswersQuery old query (Refused refusal) = Tells refusal (query_cause (built old) query)
AnswersQuery old query reply = (query_cause (built old) query ≡ None) × Answers (built old) query reply

-- ---- lines

-- the line is short enough, and reads as this in the version
pub record IsReadAs (version : Version) (line : List ℕ) (meaning : Line) : Type 0 where
  pub short : length line ≤ most_bytes
  pub reads : ReadsLine version line meaning

-- what a meaning may be answered, and the list that it leaves; what is silent has no reply
abbrev pub AnswersLine : Standing → Line → Reply → Standing → Type 0
AnswersLine old Silent reply new = ⊥
AnswersLine old (Change edit) reply new = AnswersEdit old edit reply new
AnswersLine old (Question query) reply new = AnswersQuery old query reply × (new ≡ old)

-- What a line may be answered, and the list that it leaves: a line of more than 400 bytes is
-- refused for its length, a shorter one that says nothing in the version of the list for its form,
-- and any other is answered by what it says.
pub data LineAnswers (old : Standing) (line : List ℕ) (reply : Reply) (new : Standing) : Type 0 where
  for_length : most_bytes < length line → reply ≡ Refused LimitLine → new ≡ old → LineAnswers old line reply new
  for_form : length line ≤ most_bytes → ((meaning : Line) → ReadsLine old.version line meaning → ⊥) → reply ≡ Refused Form → new ≡ old → LineAnswers old line reply new
  for_meaning : (meaning : Line) → IsReadAs old.version line meaning → AnswersLine old meaning reply new → LineAnswers old line reply new

-- **The step of the transcript.** From the list `old` the line of number k may have this turn, and
-- leaves the list `new`. A silent line has no reply. Any other may be answered `memory`, and then
-- nothing changes.
abbrev pub Step : Standing → ℕ → List ℕ → Turn → Standing → Type 0
Step old k line NoReply new = IsReadAs old.version line Silent × (new ≡ old)
Step old k line Memory new = (IsReadAs old.version line Silent → ⊥) × (new ≡ old)
Step old k line (ReplyOf bytes refused) new =
    (reply : Reply) × LineAnswers old line reply new × (bytes.items ≡ text_of k reply) × (refused ≡ is_refusal reply)
