-- What a session tells.
use Rattle.std.proofs.Common.{◌≡◌, ℕ, true, false, List, [], ◌∷◌, ◌++◌, append-nil, ◌<◌, length, Some, None, Result, Ok, Err, MatchResult, IfOk, refl, sym, ap, ◌∙◌, subst, arith}
use Rattle.std.specs.Prelude.{codes, option_map}
use Rattle.std.specs.List.{flat_map}
use Rattle.tmm_model.specs.declared.changes.WhyLine.{WhyLine}
use Rattle.tmm_model.specs.declared.line.Line.{Line}
use Rattle.tmm_model.specs.declared.line.Line.TheVariants.{Silent as Blank, Change, Question}
use Rattle.tmm_model.specs.declared.line.Query.{Query}
use Rattle.tmm_model.specs.declared.memory.NoMemory.{NoMemory}
use Rattle.tmm_model.specs.declared.premise.Edit.{Edit}
use Rattle.tmm_model.specs.declared.refusal.Refusal.{Refusal}
use Rattle.tmm_model.specs.declared.refusal.Refusal.TheVariants.{LimitLine, Form}
use Rattle.tmm_model.specs.declared.seq.Seq.{Seq}
use Rattle.tmm_model.specs.declared.version.Version.{Version}
use Rattle.tmm_model.specs.Lines.{is_comment, IsSilent, Reads, ReadsLine, IsWellFormedEdit, IsWellFormedQuery}
use Rattle.tmm_grammar.specs.Bare.{bare_query}
use Rattle.tmm_grammar.specs.Reading.{edit_of, query_of}
use Rattle.tmm_grammar.proofs.LineForms.{line_of-none, line_of-sound}
use Rattle.tmm_model.specs.declared.answer.Answer.TheVariants.{Yes, No, Unordered}
use Rattle.tmm_model.specs.Replies.{Reply, Accepted, Refused, BoundsAre, PathIs, Answered, Reasons, BrokenAre, Believed, DumpIs, AuditYes, SizeIs, head_line, text_of, why_lines, is_refusal}
use Rattle.tmm_model.specs.Standing.{Standing}
use Rattle.tmm_model.specs.Maps.{built}
use Rattle.tmm_model.specs.Questions.{query_cause}
use Rattle.tmm_model.specs.Transcript.{RefusesEdit, AnswersLine, IsReadAs, LineAnswers, for_length, for_form, for_meaning}
use Rattle.tmm_model.specs.Verdicts.{Tells as TellsCause}
use Rattle.tmm_script.proofs.Readings.{line_change, line_other}
use Rattle.tmm_session.specs.declared.told.Told.{Told}
use Rattle.tmm_session.specs.declared.told.Told.TheVariants.{Silent, Reply as ReplyOf, Memory}
use Rattle.tmm_session.specs.Kinds.{reply_kind, is_refusing}
use Rattle.tmm_session.specs.Sessions.{Splits, Tells, TellsMeaning, TellsLine}

-- bytes that are the text of a reply, or want of memory
pub Tells-reply : (k : ℕ) (replied : Reply → Type 0) (kept : Type 0) (bytes : Result (Seq ℕ) NoMemory) (reply : Reply) (t : Told)
    → IfOk bytes (λ text. text.items ≡ text_of k reply) → replied reply → kept
    → MatchResult bytes (λ text. t ≡ ReplyOf text (reply_kind reply)) (λ _. t ≡ Memory) → Tells k replied kept t
Tells-reply k replied kept (Ok text) reply t is_text answers same told = subst (Tells k replied kept) (sym told) (reply, answers, is_text, refl)
Tells-reply k replied kept (Err failed) reply t is_text answers same told = subst (Tells k replied kept) (sym told) same

-- a weaker condition on the reply
pub Tells-so : (k : ℕ) (replied also : Reply → Type 0) (kept keeps : Type 0) → ((reply : Reply) → replied reply → also reply) → (kept → keeps) → (t : Told)
    → Tells k replied kept t → Tells k also keeps t
Tells-so k replied also kept keeps so stays Silent told = absurd told
Tells-so k replied also kept keeps so stays Memory told = stays told
Tells-so k replied also kept keeps so stays (ReplyOf bytes kind) told = (told.0, so told.0 told.1, told.2, told.3)

-- ---- what a map answers

pub TellsMeaning-refused_edit : (old new : Standing) (k : ℕ) (edit : Edit) (refusal : Refusal) (t : Told) → RefusesEdit old edit refusal → new ≡ old
    → Tells k (λ reply. reply ≡ Refused refusal) (Unit {0}) t → TellsMeaning old k (Change edit) t new
TellsMeaning-refused_edit old new k edit refusal t refused kept told =
    Tells-so k (λ reply. reply ≡ Refused refusal) (λ reply. AnswersLine old (Change edit) reply new) (Unit {0}) (new ≡ old)
    (λ reply e. subst (λ r. AnswersLine old (Change edit) r new) (sym e) (refused, kept)) (λ _. kept) t told

pub TellsMeaning-refused_query : (old : Standing) (k : ℕ) (query : Query) (refusal : Refusal) (t : Told) → TellsCause refusal (query_cause (built old) query)
    → Tells k (λ reply. reply ≡ Refused refusal) (Unit {0}) t → TellsMeaning old k (Question query) t old
TellsMeaning-refused_query old k query refusal t refused told =
    Tells-so k (λ reply. reply ≡ Refused refusal) (λ reply. AnswersLine old (Question query) reply old) (Unit {0}) (old ≡ old)
    (λ reply e. subst (λ r. AnswersLine old (Question query) r old) (sym e) (refused, refl)) (λ _. refl) t told

-- the first line of a reply to `why`, and behind it the lines of reasons
pub why_text : (k : ℕ) (lines : List WhyLine) (old new : List ℕ) → old ≡ text_of k (Reasons []) → new ≡ old ++ flat_map why_lines lines → new ≡ text_of k (Reasons lines)
why_text k lines old new first grown =
    grown
    ∙ ap (λ l. l ++ flat_map why_lines lines) (first ∙ append-nil (head_line k (codes "why" ∷ [])))

-- ---- what a line is answered

-- the kind of a reply tells whether it is a refusal
pub kind-refusal : (reply : Reply) → is_refusing (reply_kind reply) ≡ is_refusal reply
kind-refusal (Accepted changes) = refl
kind-refusal (Refused refusal) = refl
kind-refusal (BoundsAre lo hi) = refl
kind-refusal (PathIs far steps) = refl
kind-refusal (Answered (Yes by)) = refl
kind-refusal (Answered (No blames more)) = refl
kind-refusal (Answered Unordered) = refl
kind-refusal (Reasons lines) = refl
kind-refusal (BrokenAre broken) = refl
kind-refusal (Believed found) = refl
kind-refusal (DumpIs version horizon lines) = refl
kind-refusal AuditYes = refl
kind-refusal (SizeIs n) = refl

-- a line is answered as what it says
pub TellsLine-meaning : (old new : Standing) (k : ℕ) (line : List ℕ) (meaning : Line) (t : Told) → IsReadAs old.version line meaning → (IsReadAs old.version line Blank → ⊥)
    → TellsMeaning old k meaning t new → TellsLine old k line t new
TellsLine-meaning old new k line meaning Silent read other told = absurd told
TellsLine-meaning old new k line meaning Memory read other told = ((other, told), tt)
TellsLine-meaning old new k line meaning (ReplyOf bytes kind) read other told =
    ((told.0, for_meaning meaning read told.1, told.2, ap is_refusing told.3 ∙ kind-refusal told.0), told.3)

-- a line is refused for its length or its form
TellsLine-refused : (old : Standing) (k : ℕ) (line : List ℕ) (refusal : Refusal) (t : Told) → ((reply : Reply) → reply ≡ Refused refusal → LineAnswers old line reply old)
    → (IsReadAs old.version line Blank → ⊥) → Tells k (λ reply. reply ≡ Refused refusal) (Unit {0}) t → TellsLine old k line t old
TellsLine-refused old k line refusal Silent answers other told = absurd told
TellsLine-refused old k line refusal Memory answers other told = ((other, refl), tt)
TellsLine-refused old k line refusal (ReplyOf bytes kind) answers other told =
    ((told.0, answers told.0 told.1, told.2, ap is_refusing told.3 ∙ kind-refusal told.0), told.3)

-- a line of more than 400 bytes is refused for its length
pub TellsLine-long : (old : Standing) (k : ℕ) (line : List ℕ) (t : Told) → 400 < length line
    → Tells k (λ reply. reply ≡ Refused LimitLine) (Unit {0}) t → TellsLine old k line t old
TellsLine-long old k line t long told = TellsLine-refused old k line LimitLine t (λ reply e. for_length long e refl) (λ silent. omega (arith, silent.short)) told

-- ---- a line by its first word, which begins no comment, and those behind it

module _ (version : Version) (word : List ℕ) (rest : List (List ℕ)) (speaks : is_comment word ≡ false) where
  -- as an edit
  reads_edit : (edit : Edit) → Some edit ≡ edit_of version word rest → Reads version (word ∷ rest) (Change edit)
  reads_edit edit e = line_of-sound version (word ∷ rest) (Change edit) (line_change version (word ∷ rest) word rest refl speaks edit (sym e))

  pub edit_is_well_formed : (edit : Edit) → Some edit ≡ edit_of version word rest → IsWellFormedEdit edit
  edit_is_well_formed edit e = (reads_edit edit e).1

  module _ (none : edit_of version word rest ≡ None) where
    -- as a question
    reads_query : (query : Query) → query_of word rest ≡ Some (bare_query query) → Reads version (word ∷ rest) (Question query)
    reads_query query e = line_of-sound version (word ∷ rest) (Question query) (line_other version (word ∷ rest) word rest refl speaks none ∙ ap (option_map Question) e)

    pub query_is_well_formed : (query : Query) → query_of word rest ≡ Some (bare_query query) → IsWellFormedQuery query
    query_is_well_formed query e = (reads_query query e).1

    -- as neither
    reads_nothing : query_of word rest ≡ None → (l : Line) → Reads version (word ∷ rest) l → ⊥
    reads_nothing no_query l = line_of-none version (word ∷ rest) l (line_other version (word ∷ rest) word rest refl speaks none ∙ ap (option_map Question) no_query)

  module _ (line : List ℕ) (is : Splits line word rest) where
    pub says_something : IsReadAs version line Blank → ⊥
    says_something silent = (let comment : is_comment word ≡ true = subst IsSilent is.split silent.reads in let e : false ≡ true = sym speaks ∙ comment in cc e)

    pub says_edit : (edit : Edit) → Some edit ≡ edit_of version word rest → IsReadAs version line (Change edit)
    says_edit edit e = record { short = is.short; reads = subst (λ (ws : List (List ℕ)). Reads version ws (Change edit)) (sym is.split) (reads_edit edit e) }

    pub says_query : edit_of version word rest ≡ None → (query : Query) → query_of word rest ≡ Some (bare_query query) → IsReadAs version line (Question query)
    says_query none query e = record { short = is.short; reads = subst (λ (ws : List (List ℕ)). Reads version ws (Question query)) (sym is.split) (reads_query none query e) }

    pub says_nothing : edit_of version word rest ≡ None → query_of word rest ≡ None → (l : Line) → ReadsLine version line l → ⊥
    says_nothing none no_query l reads = reads_nothing none no_query l (subst (λ (ws : List (List ℕ)). Reads version ws l) is.split reads)

-- a line in no form is refused for it
pub TellsLine-formless : (old : Standing) (k : ℕ) (line word : List ℕ) (rest : List (List ℕ)) (t : Told) → is_comment word ≡ false → Splits line word rest
    → edit_of old.version word rest ≡ None → query_of word rest ≡ None
    → Tells k (λ reply. reply ≡ Refused Form) (Unit {0}) t → TellsLine old k line t old
TellsLine-formless old k line word rest t speaks is none no_query told =
    TellsLine-refused old k line Form t
    (λ reply e. for_form is.short (says_nothing old.version word rest speaks line is none no_query) e refl)
    (says_something old.version word rest speaks line is) told
