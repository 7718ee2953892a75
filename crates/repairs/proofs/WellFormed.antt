-- Lines leave a list of well-formed premises one of these.
use Rattle.std.proofs.Common.{ℕ, List, [], sym, subst}
use Rattle.std.specs.List.{All, Contains}
use Rattle.std.proofs.lemmas.List.Elements.{All-push}
use Rattle.tmm_model.specs.declared.line.Line.{Line}
use Rattle.tmm_model.specs.declared.line.Line.TheVariants.{Silent as Blank, Change, Question}
use Rattle.tmm_model.specs.declared.premise.Edit.{Edit}
use Rattle.tmm_model.specs.declared.premise.Edit.TheVariants.{Add, Erase, Horizon, Upgrade}
use Rattle.tmm_model.specs.declared.premise.Premise.{Premise}
use Rattle.tmm_model.specs.declared.turn.Turn.{Turn}
use Rattle.tmm_model.specs.declared.turn.Turn.TheVariants.{Silent, Reply as ReplyOf, Memory}
use Rattle.tmm_model.specs.Edits.{next_list}
use Rattle.tmm_model.specs.Erasure.{kept_without}
use Rattle.tmm_model.specs.Lines.{IsWellFormedPremise, IsWellFormedEdit}
use Rattle.tmm_model.specs.Replies.{Reply, Accepted, Refused, BoundsAre, PathIs, Answered, Reasons, BrokenAre, Believed, DumpIs, AuditYes, SizeIs}
use Rattle.tmm_model.specs.Standing.{Standing}
use Rattle.tmm_model.specs.Transcript.{Step, IsReadAs, AnswersEdit, AnswersLine, LineAnswers, for_length, for_form, for_meaning}
use Rattle.walk_theory.proofs.Members.{All-fewer}
use Rattle.list_theory.proofs.Elements.{In-from_Contains, Contains-from_In}
use Rattle.list_theory.proofs.Erasure.{kept_before}

-- the premises of the list are well formed
abbrev pub AreWellFormed : Standing → Type 0
AreWellFormed s = All IsWellFormedPremise s.premises

next_well_formed : (s : Standing) (edit : Edit) → IsWellFormedEdit edit → AreWellFormed s → AreWellFormed (next_list s edit)
next_well_formed s (Add premise) is well = All-push IsWellFormedPremise s.premises premise well is
next_well_formed s (Erase name) is well = All-fewer IsWellFormedPremise s.premises (kept_without name s.premises) each well
  where
    each : (p : Premise) → Contains (kept_without name s.premises) p → Contains s.premises p
    each p at = Contains-from_In s.premises p (kept_before name [] s.premises p (In-from_Contains (kept_without name s.premises) p at))
next_well_formed s (Horizon n) is well = well
next_well_formed s Upgrade is well = well

edit_leaves : (old new : Standing) (edit : Edit) (reply : Reply) → IsWellFormedEdit edit → AnswersEdit old edit reply new → AreWellFormed old → AreWellFormed new
edit_leaves old new edit (Accepted told) is answers well = subst AreWellFormed (sym answers.2) (next_well_formed old edit is well)
edit_leaves old new edit (Refused refusal) is answers well = subst AreWellFormed (sym answers.1) well
edit_leaves old new edit (BoundsAre lo hi) is never well = absurd never
edit_leaves old new edit (PathIs far steps) is never well = absurd never
edit_leaves old new edit (Answered answer) is never well = absurd never
edit_leaves old new edit (Reasons lines) is never well = absurd never
edit_leaves old new edit (BrokenAre found) is never well = absurd never
edit_leaves old new edit (Believed rows) is never well = absurd never
edit_leaves old new edit (DumpIs version horizon premises) is never well = absurd never
edit_leaves old new edit AuditYes is never well = absurd never
edit_leaves old new edit (SizeIs n) is never well = absurd never

meaning_leaves : (old new : Standing) (line : List ℕ) (meaning : Line) (reply : Reply) → IsReadAs old.version line meaning → AnswersLine old meaning reply new → AreWellFormed old → AreWellFormed new
meaning_leaves old new line Blank reply read never well = absurd never
meaning_leaves old new line (Change edit) reply read answers well = edit_leaves old new edit reply read.reads.1 answers well
meaning_leaves old new line (Question query) reply read answers well = subst AreWellFormed (sym answers.1) well

line_leaves : (old new : Standing) (line : List ℕ) (reply : Reply) → LineAnswers old line reply new → AreWellFormed old → AreWellFormed new
line_leaves old new line reply answers well = elim answers [
  | for_length long is_refused kept ↦ subst AreWellFormed (sym kept) well
  | for_form short formless is_refused kept ↦ subst AreWellFormed (sym kept) well
  | for_meaning meaning read as_meant ↦ meaning_leaves old new line meaning reply read as_meant well
]

-- **A step leaves well-formed premises.**
pub step_leaves : (old new : Standing) (k : ℕ) (line : List ℕ) (turn : Turn) → Step old k line turn new → AreWellFormed old → AreWellFormed new
step_leaves old new k line Silent step well = subst AreWellFormed (sym step.1) well
step_leaves old new k line Memory step well = subst AreWellFormed (sym step.1) well
step_leaves old new k line (ReplyOf bytes refused) step well = line_leaves old new line step.0 step.1 well
