-- Each line of a script leaves a kept list where there was one.
use Rattle.std.proofs.Common.{◌≡◌, ℕ, List, sym, subst}
use Rattle.tmm_model.specs.declared.line.Line.{Line}
use Rattle.tmm_model.specs.declared.line.Line.TheVariants.{Silent, Change, Question}
use Rattle.tmm_model.specs.declared.premise.Edit.{Edit}
use Rattle.tmm_model.specs.declared.turn.Turn.{Turn}
use Rattle.tmm_model.specs.declared.turn.Turn.TheVariants.{Silent as NoReply, Reply as ReplyOf, Memory}
use Rattle.belief_theory.specs.KeptLists.{IsKept}
use Rattle.tmm_model.specs.Lines.{IsWellFormedEdit, IsEditOf, ReadsLine}
use Rattle.tmm_model.specs.Replies.{Reply, Accepted, Refused, BoundsAre, PathIs, Answered, Reasons, BrokenAre, Believed, DumpIs, AuditYes, SizeIs}
use Rattle.tmm_model.specs.Standing.{Standing}
use Rattle.tmm_model.specs.Transcript.{AnswersEdit, AnswersLine, LineAnswers, for_length, for_form, for_meaning, Step}
use Rattle.belief_theory.proofs.StayKept.{stays_kept}

-- a list that is as it was
unchanged : (old new : Standing) → IsKept old → new ≡ old → IsKept new
unchanged old new kept same = subst IsKept (sym same) kept

edit_keeps : (old new : Standing) (edit : Edit) (reply : Reply) → IsKept old → IsWellFormedEdit edit → IsEditOf old.version edit → AnswersEdit old edit reply new → IsKept new
edit_keeps old new edit (Accepted told) kept formed versioned (accepted, _, next) = subst IsKept (sym next) (stays_kept old edit kept formed versioned accepted)
edit_keeps old new edit (Refused refusal) kept formed versioned (_, same) = unchanged old new kept same
edit_keeps old new edit (BoundsAre lo hi) kept formed versioned never = absurd never
edit_keeps old new edit (PathIs hi steps) kept formed versioned never = absurd never
edit_keeps old new edit (Answered answer) kept formed versioned never = absurd never
edit_keeps old new edit (Reasons lines) kept formed versioned never = absurd never
edit_keeps old new edit (BrokenAre reports) kept formed versioned never = absurd never
edit_keeps old new edit (Believed rows) kept formed versioned never = absurd never
edit_keeps old new edit (DumpIs version horizon premises) kept formed versioned never = absurd never
edit_keeps old new edit AuditYes kept formed versioned never = absurd never
edit_keeps old new edit (SizeIs n) kept formed versioned never = absurd never

meaning_keeps : (old new : Standing) (line : List ℕ) (meaning : Line) (reply : Reply) → IsKept old → ReadsLine old.version line meaning → AnswersLine old meaning reply new → IsKept new
meaning_keeps old new line Silent reply kept reads never = absurd never
meaning_keeps old new line (Change edit) reply kept reads answers = edit_keeps old new edit reply kept reads.1 reads.2 answers
meaning_keeps old new line (Question query) reply kept reads answers = unchanged old new kept answers.1

answer_keeps : (old new : Standing) (line : List ℕ) (reply : Reply) → IsKept old → LineAnswers old line reply new → IsKept new
answer_keeps old new line reply kept (for_length long is same) = unchanged old new kept same
answer_keeps old new line reply kept (for_form short nothing is same) = unchanged old new kept same
answer_keeps old new line reply kept (for_meaning meaning read answers) = meaning_keeps old new line meaning reply kept read.reads answers

pub step_keeps : (old new : Standing) (k : ℕ) (line : List ℕ) (turn : Turn) → IsKept old → Step old k line turn new → IsKept new
step_keeps old new k line NoReply kept step = unchanged old new kept step.1
step_keeps old new k line Memory kept step = unchanged old new kept step.1
step_keeps old new k line (ReplyOf bytes refused) kept (reply, answers, _, _) = answer_keeps old new line reply kept answers
