-- The lines of a dump are accepted when they are run again, and leave the list.
use Rattle.std.proofs.Common.{◌≡◌, ◌∙◌, ℕ, ◌+◌, ◌≤◌, Bool, true, false, ◌||◌, List, [], ◌∷◌, ◌++◌, map, length, refl, sym, ap, subst, arith, append_assoc, append-nil, inl, inr}
use Rattle.std.proofs.lemmas.List.{length-map}
use Rattle.std.specs.Prelude.{codes, decimal, ◌⊎◌, IsSome}
use Rattle.std.specs.List.{list_any, flat_map}
use Rattle.tmm_model.specs.declared.line.Line.{Line}
use Rattle.tmm_model.specs.declared.line.Line.TheVariants.{Silent, Change, Question}
use Rattle.tmm_model.specs.declared.premise.Edit.{Edit}
use Rattle.tmm_model.specs.declared.premise.Edit.TheVariants.{Add, Horizon, Upgrade}
use Rattle.tmm_model.specs.declared.premise.Premise.{Premise}
use Rattle.tmm_model.specs.declared.refusal.Refusal.{Refusal}
use Rattle.tmm_model.specs.declared.refusal.Refusal.TheVariants.{LimitLine, Form, Taken, Unknown, Sort, LimitPremises, LimitPoints, Cycle, LimitSize}
use Rattle.tmm_model.specs.declared.turn.Turn.{Turn}
use Rattle.tmm_model.specs.declared.turn.Turn.TheVariants.{Silent as NoReply, Reply as ReplyOf, Memory}
use Rattle.tmm_model.specs.declared.version.Version.{Version}
use Rattle.tmm_model.specs.declared.version.Version.TheVariants.{One, Two}
use Rattle.tmm_model.specs.Cuts.{joined, ended}
use Rattle.tmm_laws.specs.EditLaws.{AcceptsAll, GrowsSmall, AllReadBack, version_edits, dump_edits, dumped_line}
use Rattle.tmm_model.specs.Edits.{next_list}
use Rattle.belief_theory.specs.KeptLists.{IsKept}
use Rattle.tmm_model.specs.Kept.{IsAccepted}
use Rattle.tmm_model.specs.Lines.{words, shown_text, ReadsLine}
use Rattle.tmm_grammar.specs.Bare.{bare_line}
use Rattle.tmm_model.specs.Replies.{Reply, Accepted, Refused, BoundsAre, PathIs, Answered, Reasons, BrokenAre, Believed, DumpIs, AuditYes, SizeIs, is_refusal, head_line, line_of, opening_lines, text_of, two}
use Rattle.tmm_model.specs.Runs.{Run, is_refused, is_memory}
use Rattle.tmm_model.specs.Standing.{Standing, empty_list}
use Rattle.tmm_model.specs.Transcript.{AnswersEdit, AnswersLine, RefusesEdit, LineAnswers, for_length, for_form, for_meaning, Step}
use Rattle.tmm_grammar.proofs.LineForms.{one_reading}
use Rattle.tmm_laws.proofs.EditLaws.{dump_reloads}
use Rattle.tmm_laws.specs.DumpRuns.{dumped_lines}

-- ---- an edit is accepted or refused, and not both

pub no_lie : (P : Type 0) → true ≡ false → P
no_lie P e = absurd (cc e)

pub one_verdict : (old : Standing) (edit : Edit) (refusal : Refusal) → IsAccepted old edit → RefusesEdit old edit refusal → ⊥
one_verdict old edit (Cycle sum steps) a r = r.no_dates a.dates
one_verdict old edit LimitSize a r = omega (arith, a.small, r.large)
one_verdict old edit LimitLine a r = no_lie ⊥ (sym (subst IsSome a.no_cause r.0))
one_verdict old edit Form a r = no_lie ⊥ (sym (subst IsSome a.no_cause r.0))
one_verdict old edit (Taken word) a r = no_lie ⊥ (sym (subst IsSome a.no_cause r.0))
one_verdict old edit (Unknown word) a r = no_lie ⊥ (sym (subst IsSome a.no_cause r.0))
one_verdict old edit (Sort word) a r = no_lie ⊥ (sym (subst IsSome a.no_cause r.0))
one_verdict old edit LimitPremises a r = no_lie ⊥ (sym (subst IsSome a.no_cause r.0))
one_verdict old edit LimitPoints a r = no_lie ⊥ (sym (subst IsSome a.no_cause r.0))

-- what an accepted edit is answered
made : (old new : Standing) (edit : Edit) (reply : Reply) → IsAccepted old edit → AnswersEdit old edit reply new → (new ≡ next_list old edit) × (is_refusal reply ≡ false)
made old new edit (Accepted c) a (_, _, next) = (next, refl)
made old new edit (Refused refusal) a (r, _) = absurd (one_verdict old edit refusal a r)
made old new edit (BoundsAre lo hi) a never = absurd never
made old new edit (PathIs hi steps) a never = absurd never
made old new edit (Answered answer) a never = absurd never
made old new edit (Reasons lines) a never = absurd never
made old new edit (BrokenAre reports) a never = absurd never
made old new edit (Believed rows) a never = absurd never
made old new edit (DumpIs version horizon premises) a never = absurd never
made old new edit AuditYes a never = absurd never
made old new edit (SizeIs n) a never = absurd never

-- the edit of a line that says one
abbrev pub edit_in : Line → Edit → Edit
edit_in (Change edit) other = edit
edit_in Silent other = other
edit_in (Question query) other = other

abbrev is_change : Line → Bool
is_change (Change edit) = true
is_change Silent = false
is_change (Question query) = false

meant : (old new : Standing) (line : List ℕ) (edit : Edit) (meaning : Line) (reply : Reply) → ReadsLine old.version line (Change edit) → IsAccepted old edit
    → ReadsLine old.version line meaning → AnswersLine old meaning reply new → (new ≡ next_list old edit) × (is_refusal reply ≡ false)
meant old new line edit Silent reply reads a says never = absurd never
meant old new line edit (Change other) reply reads a says answers =
    let same : Change other ≡ Change edit = one_reading old.version (words line) (Change other) (Change edit) says reads in
    let is : other ≡ edit = ap (λ l. edit_in l other) same in
    made old new edit reply a (subst (λ e. AnswersEdit old e reply new) is answers)
meant old new line edit (Question query) reply reads a says answers =
    let same : bare_line (Question query) ≡ Change edit = one_reading old.version (words line) (Question query) (Change edit) says reads in
    no_lie ((new ≡ next_list old edit) × (is_refusal reply ≡ false)) (sym (ap is_change same))

-- ---- a line that reads as an accepted edit

told : (old new : Standing) (line : List ℕ) (edit : Edit) (reply : Reply) → length line ≤ 400 → ReadsLine old.version line (Change edit) → IsAccepted old edit
    → LineAnswers old line reply new → (new ≡ next_list old edit) × (is_refusal reply ≡ false)
told old new line edit reply short reads a (for_length long is same) = absurd (omega (arith, short, long))
told old new line edit reply short reads a (for_form _ nothing is same) = absurd (nothing (Change edit) reads)
told old new line edit reply short reads a (for_meaning meaning says answers) = meant old new line edit meaning reply reads a says.reads answers

stepped : (old new : Standing) (k : ℕ) (line : List ℕ) (edit : Edit) (turn : Turn) → length line ≤ 400 → ReadsLine old.version line (Change edit) → IsAccepted old edit
    → Step old k line turn new → is_memory turn ≡ false → (new ≡ next_list old edit) × (is_refused turn ≡ false)
stepped old new k line edit NoReply short reads a step no_memory =
    let same : Silent ≡ Change edit = one_reading old.version (words line) Silent (Change edit) step.0.reads reads in
    no_lie ((new ≡ next_list old edit) × (is_refused NoReply ≡ false)) (sym (ap is_change same))
stepped old new k line edit Memory short reads a step no_memory = no_lie ((new ≡ next_list old edit) × (is_refused Memory ≡ false)) no_memory
stepped old new k line edit (ReplyOf bytes refused) short reads a (reply, answers, _, is) no_memory =
    let done = told old new line edit reply short reads a answers in
    (done.0, is ∙ done.1)

-- ---- a run of them

first_false : (a b : Bool) → (a || b) ≡ false → a ≡ false
first_false false b e = refl
first_false true b e = e

second_false : (a b : Bool) → (a || b) ≡ false → b ≡ false
second_false false b e = e
second_false true b e = no_lie (b ≡ false) e

both_false : (a b : Bool) → a ≡ false → b ≡ false → (a || b) ≡ false
both_false a b e f = ap (λ x. x || b) e ∙ f

ran : (old : Standing) (edits : List Edit) (new : Standing) → AcceptsAll old edits new → AllReadBack old edits
    → (k : ℕ) (turns : List Turn) (end : Standing) → Run Step old k (map dumped_line edits) turns end → list_any is_memory turns ≡ false
    → (end ≡ new) × (list_any is_refused turns ≡ false)
ran old [] new accepts reads k [] end run no_memory = (run ∙ sym accepts, refl)
ran old [] new accepts reads k (turn ∷ turns) end run no_memory = absurd run
ran old (edit ∷ edits) new accepts reads k [] end run no_memory = absurd run
ran old (edit ∷ edits) new (accepted, more) (back, reads) k (turn ∷ turns) end (mid, step, run) no_memory =
    let done = stepped old mid (k + 1) (dumped_line edit) edit turn back.0 back.1 accepted step (first_false (is_memory turn) (list_any is_memory turns) no_memory) in
    let rest = ran (next_list old edit) edits new more reads (k + 1) turns end (subst (λ s. Run Step s (k + 1) (map dumped_line edits) turns end) done.0 run) (second_false (is_memory turn) (list_any is_memory turns) no_memory) in
    (rest.0, both_false (is_refused turn) (list_any is_refused turns) done.1 rest.1)

pub dumps_run : (s : Standing) → IsKept s → GrowsSmall s
    → (k : ℕ) (turns : List Turn) (end : Standing) → Run Step empty_list k (dumped_lines s) turns end → list_any is_memory turns ≡ false
    → (end ≡ s) × (list_any is_refused turns ≡ false)
dumps_run s kept small k turns end run no_memory =
    let law = dump_reloads s kept small in
    ran empty_list (dump_edits s) s law.1 law.0 k turns end run no_memory

-- ---- the text of a dump

premise_told : (p : Premise) → line_of two (shown_text p ∷ []) ≡ ended (dumped_line (Add p))
premise_told p =
    ap (λ t. two ++ t ++ 10 ∷ []) (append-nil (shown_text p)) ∙ sym (append_assoc two (shown_text p) (10 ∷ []))

premises_told : (ps : List Premise) → flat_map (λ premise. line_of two (premise ∷ [])) (map shown_text ps) ≡ joined (map dumped_line (map Add ps))
premises_told [] = refl
premises_told (p ∷ ps) = λ i. premise_told p i ++ premises_told ps i

-- the opening lines of a dump tell its first edits
opening_told : (v : Version) (h : ℕ) (edits : List Edit) → opening_lines v h ++ joined (map dumped_line edits) ≡ joined (map dumped_line (version_edits v ++ Horizon h ∷ edits))
opening_told One h edits = refl
opening_told Two h edits = append_assoc (ended (dumped_line Upgrade)) (ended (dumped_line (Horizon h))) (joined (map dumped_line edits))

pub dumps_tell : (k : ℕ) (s : Standing)
    → text_of k (DumpIs s.version s.horizon (map shown_text s.premises)) ≡ head_line k (codes "dump" ∷ decimal (length s.premises) ∷ []) ++ joined (dumped_lines s)
dumps_tell k s =
    let count : length (map shown_text s.premises) ≡ length s.premises = length-map s.premises shown_text in
    let head : List ℕ = head_line k (codes "dump" ∷ decimal (length s.premises) ∷ []) in
    let edits : List Edit = map Add s.premises in
    let told_rest = premises_told s.premises in
    (λ i. head_line k (codes "dump" ∷ decimal (count i) ∷ []) ++ opening_lines s.version s.horizon ++ told_rest i)
    ∙ append_assoc head (opening_lines s.version s.horizon) (joined (map dumped_line edits))
    ∙ ap (λ (l : List ℕ). head ++ l) (opening_told s.version s.horizon edits)

-- ---- one list is left

verdict : (old new : Standing) (edit : Edit) (reply : Reply) → AnswersEdit old edit reply new → (IsAccepted old edit × (new ≡ next_list old edit)) ⊎ (((r : Refusal) × RefusesEdit old edit r) × (new ≡ old))
verdict old new edit (Accepted c) (a, _, next) = inl (a, next)
verdict old new edit (Refused refusal) (r, same) = inr ((refusal, r), same)
verdict old new edit (BoundsAre lo hi) never = absurd never
verdict old new edit (PathIs hi steps) never = absurd never
verdict old new edit (Answered answer) never = absurd never
verdict old new edit (Reasons lines) never = absurd never
verdict old new edit (BrokenAre reports) never = absurd never
verdict old new edit (Believed rows) never = absurd never
verdict old new edit (DumpIs version horizon premises) never = absurd never
verdict old new edit AuditYes never = absurd never
verdict old new edit (SizeIs n) never = absurd never

edits_agree : (old new other : Standing) (edit : Edit) (a b : Reply) → AnswersEdit old edit a new → AnswersEdit old edit b other → new ≡ other
edits_agree old new other edit a b h g = by (verdict old new edit a h) (verdict old other edit b g)
  where
    by : (IsAccepted old edit × (new ≡ next_list old edit)) ⊎ (((r : Refusal) × RefusesEdit old edit r) × (new ≡ old))
        → (IsAccepted old edit × (other ≡ next_list old edit)) ⊎ (((r : Refusal) × RefusesEdit old edit r) × (other ≡ old)) → new ≡ other
    by (inl (_, e)) (inl (_, f)) = e ∙ sym f
    by (inr (_, e)) (inr (_, f)) = e ∙ sym f
    by (inl (a, _)) (inr ((r, is), _)) = absurd (one_verdict old edit r a is)
    by (inr ((r, is), _)) (inl (a, _)) = absurd (one_verdict old edit r a is)

-- in the version the line reads as no edit
abbrev IsNoEdit : Version → List ℕ → Type 0
IsNoEdit version line = (edit : Edit) → length line ≤ 400 → ReadsLine version line (Change edit) → ⊥

-- it is answered by its edit, or reads as none and leaves the old list
abbrev Leaves : Standing → List ℕ → Standing → Type 0
Leaves old line new = ((edit : Edit) × (reply : Reply) × (length line ≤ 400) × ReadsLine old.version line (Change edit) × AnswersEdit old edit reply new) ⊎ (IsNoEdit old.version line × (new ≡ old))

no_question : (version : Version) (line : List ℕ) (query : _) → ReadsLine version line (Question query) → IsNoEdit version line
no_question version line query says edit short reads =
    let same : bare_line (Question query) ≡ Change edit = one_reading version (words line) (Question query) (Change edit) says reads in
    no_lie ⊥ (sym (ap is_change same))

no_silence : (version : Version) (line : List ℕ) → ReadsLine version line Silent → IsNoEdit version line
no_silence version line says edit short reads =
    let same : Silent ≡ Change edit = one_reading version (words line) Silent (Change edit) says reads in
    no_lie ⊥ (sym (ap is_change same))

left : (old new : Standing) (line : List ℕ) (reply : Reply) → LineAnswers old line reply new → Leaves old line new
left old new line reply (for_length long is same) = inr ((λ edit short reads. absurd (omega (arith, short, long))), same)
left old new line reply (for_form _ nothing is same) = inr ((λ edit short reads. nothing (Change edit) reads), same)
left old new line reply (for_meaning Silent says never) = absurd never
left old new line reply (for_meaning (Change edit) says answers) = inl (edit, reply, says.short, says.reads, answers)
left old new line reply (for_meaning (Question query) says answers) = inr (no_question old.version line query says.reads, answers.1)

step_leaves : (old new : Standing) (k : ℕ) (line : List ℕ) (turn : Turn) → Step old k line turn new → is_memory turn ≡ false → Leaves old line new
step_leaves old new k line NoReply step no_memory = inr (no_silence old.version line step.0.reads, step.1)
step_leaves old new k line Memory step no_memory = no_lie (Leaves old line new) no_memory
step_leaves old new k line (ReplyOf bytes refused) (reply, answers, _, _) no_memory = left old new line reply answers

agree : (old new other : Standing) (line : List ℕ) → Leaves old line new → Leaves old line other → new ≡ other
agree old new other line (inl (edit, reply, short, reads, answers)) (inl (edit_2, reply_2, short_2, reads_2, answers_2)) =
    let same : Change edit_2 ≡ Change edit = one_reading old.version (words line) (Change edit_2) (Change edit) reads_2 reads in
    let is : edit_2 ≡ edit = ap (λ l. edit_in l edit_2) same in
    edits_agree old new other edit reply reply_2 answers (subst (λ e. AnswersEdit old e reply_2 other) is answers_2)
agree old new other line (inl (edit, reply, short, reads, answers)) (inr (none, same)) = absurd (none edit short reads)
agree old new other line (inr (none, same)) (inl (edit, reply, short, reads, answers)) = absurd (none edit short reads)
agree old new other line (inr (_, same)) (inr (_, same_2)) = same ∙ sym same_2

pub steps_leave_one : (old : Standing) (k : ℕ) (line : List ℕ) (a b : Turn) (new other : Standing)
    → Step old k line a new → Step old k line b other → is_memory a ≡ false → is_memory b ≡ false → new ≡ other
steps_leave_one old k line a b new other h g memory_a memory_b =
    agree old new other line (step_leaves old new k line a h memory_a) (step_leaves old other k line b g memory_b)
