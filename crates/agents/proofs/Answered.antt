-- What lines are answered.
use Rattle.std.proofs.Common.{◌≡◌, ℕ, ◌+◌, ◌<◌, ◌≤◌, true, false, List, [], ◌∷◌, ◌++◌, length, drop, length-append, Option, None, Result, Ok, Err, refl, sym, ap, ◌∙◌, subst, inl, inr, arith}
use Rattle.std.specs.Prelude.{IfOk, MatchResult, ◌↔◌}
use Rattle.std.proofs.lemmas.Bool.{cases_lt}
use Rattle.tmm_model.specs.declared.changes.Taken.{Taken}
use Rattle.tmm_model.specs.declared.line.Line.{Line}
use Rattle.tmm_model.specs.declared.line.Line.TheVariants.{Silent as Blank, Change, Question}
use Rattle.tmm_model.specs.declared.line.Query.{Query}
use Rattle.tmm_model.specs.declared.memory.NoMemory.{NoMemory as Wanting}
use Rattle.tmm_model.specs.declared.mode.ModeCause.{ModeCause}
use Rattle.tmm_model.specs.declared.mode.ModeCause.TheVariants.{Agent as NoAgent}
use Rattle.tmm_model.specs.declared.mode.ModeLine.TheVariants.{Hold}
use Rattle.tmm_model.specs.declared.premise.Edit.{Edit}
use Rattle.tmm_model.specs.declared.refusal.Refusal.{Refusal}
use Rattle.tmm_model.specs.declared.refusal.Refusal.TheVariants.{LimitLine, Form, Taken as TakenWord, Unknown, Sort, LimitPremises, LimitPoints, Cycle, LimitSize}
use Rattle.tmm_model.specs.declared.refusal.Stop.{Stop}
use Rattle.tmm_model.specs.declared.refusal.Stop.TheVariants.{Refused as Stopped}
use Rattle.tmm_model.specs.declared.seq.Seq.{Seq}
use Rattle.tmm_model.specs.declared.turn.Turn.{Turn}
use Rattle.tmm_model.specs.declared.turn.Turn.TheVariants.{Silent, Reply as ReplyOf, Memory}
use Rattle.tmm_model.specs.declared.version.Version.{Version}
use Rattle.tmm_model.specs.declared.version.Version.TheVariants.{Two}
use Rattle.tmm_model.specs.Lines.{Reads, ReadsLine, words}
use Rattle.tmm_model.specs.Replies.{Refused, text_of}
use Rattle.tmm_model.specs.Transcript.{IsReadAs, LineAnswers, Step, for_length as too_long, for_form as formless}
use Rattle.tmm_grammar.specs.Bare.{bare_line}
use Rattle.tmm_grammar.proofs.LineForms.{one_reading}
use Rattle.tmm_script.specs.Given.{IsReadingOf}
use Rattle.tmm_session.specs.declared.told.Told.{Told}
use Rattle.tmm_session.specs.Kinds.{turn_of}
use Rattle.tmm_session.specs.Sessions.{TellsMeaning}
use Rattle.tmm_session.proofs.Turns.{TellsLine-meaning}
use Rattle.mode_session.specs.ModeSteps.{OwnStep}
use Rattle.replies.specs.Batches.{held_text, batch_text, no_batch_text}
use Rattle.agents.specs.declared.batches.Held.{Held}
use Rattle.agents.specs.Batches.{held_by, hold_cause}
use Rattle.agents.specs.Commits.{AcceptedInTurn, RefusedAt}
use Rattle.agents.specs.Sharing.{SharingOwn, for_edit, SharingOther, for_change, for_other, IsRefused, Holds, CommitAnswers, for_all, for_none, holding, committed, discarded}
use Rattle.agents.specs.Turns.{TurnIs, Closes}
use Rattle.agents.specs.Worlds.{World}
use Rattle.agents.proofs.Places.{held-with}

-- ---- lines without an agent

-- a line that is not read
abbrev pub no_line : Stop → Result Line Stop
no_line stop = Err stop

module _ (w : World) (k : ℕ) (line : List ℕ) where
  -- one that says an edit
  pub edit_without_agent : (version : Version) (edit : Edit) (turn : Turn) → version ≡ w.list.version → length line ≤ 400 → ReadsLine version line (Change edit)
      → IsRefused k NoAgent turn → SharingOther w k line turn w
  edit_without_agent version edit turn is short reads refused =
      for_change edit (record { short = short; reads = subst (λ (v : Version). ReadsLine v line (Change edit)) is reads }) refused refl

  not_both : (version : Version) (query : Query) (edit : Edit) → ReadsLine version line (Question query) → ReadsLine version line (Change edit) → ⊥
  not_both version query edit asks changes =
      let same : bare_line (Question query) ≡ Change edit = one_reading version (words line) (Question query) (Change edit) asks changes in
      cc same

  not_blank : (version : Version) (query : Query) → ReadsLine version line (Question query) → ReadsLine version line Blank → ⊥
  not_blank version query asks blank =
      let same : bare_line (Question query) ≡ Blank = one_reading version (words line) (Question query) Blank asks blank in
      cc same

  -- one that asks a question
  pub question_without_agent : (version : Version) (query : Query) (told : Told) → version ≡ w.list.version → length line ≤ 400 → ReadsLine version line (Question query)
      → TellsMeaning w.list k (Question query) told w.list → SharingOther w k line (turn_of told) w
  question_without_agent version query told is short reads tells =
      let asks : ReadsLine w.list.version line (Question query) = subst (λ (v : Version). ReadsLine v line (Question query)) is reads in
      for_other (λ edit read. not_both w.list.version query edit asks read.reads)
      (TellsLine-meaning w.list w.list k line (Question query) told (record { short = short; reads = asks }) (λ blank. not_blank w.list.version query asks blank.reads) tells).0 refl

  -- a line that is refused for its length or its form
  refused_step : (refusal : Refusal) (turn : Turn) → LineAnswers w.list line (Refused refusal) w.list → (IsReadAs w.list.version line Blank → ⊥)
      → (bytes : Result (Seq ℕ) Wanting) → IfOk bytes (λ text. text.items ≡ text_of k (Refused refusal))
      → MatchResult bytes (λ text. turn ≡ ReplyOf text true) (λ _. turn ≡ Memory) → Step w.list k line turn w.list
  refused_step refusal turn answers speaks (Ok text) is_text is = subst (λ (t : Turn). Step w.list k line t w.list) (sym is) (Refused refusal, answers, is_text, refl)
  refused_step refusal turn answers speaks (Err failed) is_text is = subst (λ (t : Turn). Step w.list k line t w.list) (sym is) (speaks, refl)

  record IsBad (refusal : Refusal) : Type 0 where
    answers : LineAnswers w.list line (Refused refusal) w.list
    says_nothing : (meaning : Line) → IsReadAs w.list.version line meaning → ⊥

  short_bad : (refusal : Refusal) → length line ≤ 400 → IsReadingOf w.list.version line (no_line (Stopped refusal)) → IsBad refusal
  short_bad Form short none = record { answers = formless short none refl refl; says_nothing = λ meaning read. none meaning read.reads }
  short_bad LimitLine short never = absurd never
  short_bad (TakenWord word) short never = absurd never
  short_bad (Unknown word) short never = absurd never
  short_bad (Sort word) short never = absurd never
  short_bad LimitPremises short never = absurd never
  short_bad LimitPoints short never = absurd never
  short_bad (Cycle sum steps) short never = absurd never
  short_bad LimitSize short never = absurd never

  refusal_is : (refusal other : Refusal) → no_line (Stopped refusal) ≡ no_line (Stopped other) → refusal ≡ other
  refusal_is refusal other e = cc

  long_bad : (refusal : Refusal) → 400 < length line → refusal ≡ LimitLine → IsBad refusal
  long_bad refusal long is = record {
    answers = too_long long (ap (λ (r : Refusal). Refused r) is) refl;
    says_nothing = λ meaning read. omega (arith, read.short);
  }

  bad : (refusal : Refusal) → ((no_line (Stopped refusal) ≡ no_line (Stopped LimitLine)) ↔ (400 < length line))
      → (length line ≤ 400 → IsReadingOf w.list.version line (no_line (Stopped refusal))) → IsBad refusal
  bad refusal long read = elim (cases_lt 400 (length line)) [
    | inl more ↦ long_bad refusal more (refusal_is refusal LimitLine (long.1 more))
    | inr few ↦ short_bad refusal (omega arith) (read (omega arith))
  ]

  pub refused_without_agent : (version : Version) (refusal : Refusal) (turn : Turn) → version ≡ w.list.version
      → (read : Result Line Stop) → read ≡ no_line (Stopped refusal)
      → ((read ≡ no_line (Stopped LimitLine)) ↔ (400 < length line)) → (length line ≤ 400 → IsReadingOf version line read)
      → (bytes : Result (Seq ℕ) Wanting) → IfOk bytes (λ text. text.items ≡ text_of k (Refused refusal))
      → MatchResult bytes (λ text. turn ≡ ReplyOf text true) (λ _. turn ≡ Memory) → SharingOther w k line turn w
  refused_without_agent version refusal turn is read stopped long says bytes is_text tells =
      let so : IsBad refusal = bad refusal
      (subst (λ (r : Result Line Stop). (r ≡ no_line (Stopped LimitLine)) ↔ (400 < length line)) stopped long)
      (λ short. subst (λ (v : Version). IsReadingOf v line (no_line (Stopped refusal))) is (subst (λ (r : Result Line Stop). IsReadingOf version line r) stopped (says short))) in
      for_other (λ edit said. so.says_nothing (Change edit) said) (refused_step refusal turn so.answers (λ blank. so.says_nothing Blank blank) bytes is_text tells) refl

-- what a line is read as, where it is read
pub record IsSaid (version : Version) (line : List ℕ) (said : Line) : Type 0 where
  pub short : length line ≤ 400
  pub reads : ReadsLine version line said

-- a line that is read is none that is refused
not_refused : (said : Line) → Ok said ≡ no_line (Stopped LimitLine) → ⊥
not_refused said e = cc

pub said_is : (version : Version) (line : List ℕ) (said : Line) (read : Result Line Stop) → read ≡ Ok said
    → ((read ≡ no_line (Stopped LimitLine)) ↔ (400 < length line)) → (length line ≤ 400 → IsReadingOf version line read) → IsSaid version line said
said_is version line said read is long says =
    let short : length line ≤ 400 = elim (cases_lt 400 (length line)) [
      | inl more ↦ absurd (not_refused said (sym is ∙ long.1 more))
      | inr few ↦ few
    ] in
    record { short = short; reads = subst (λ (r : Result Line Stop). IsReadingOf version line r) is (says short) }

-- ---- an agent's lines

-- an edit is held
pub held_turn : (old new : World) (k : ℕ) (agent : List ℕ) (edit : Edit) (count : ℕ) (done : Seq ℕ) (turn : Turn) → turn ≡ ReplyOf done false
    → hold_cause old.batches agent ≡ None → new ≡ holding old agent (record { line = k; edit = edit }) → count ≡ length (held_by old.batches agent)
    → done.items ≡ held_text k (count + 1) → TurnIs (Holds old k agent edit (hold_cause old.batches agent)) old turn new
held_turn old new k agent edit count done turn is allowed made counted text =
    let held : Held = record { line = k; edit = edit } in
    let more : held_by new.batches agent ≡ held_by old.batches agent ++ held ∷ [] = ap (λ (w : World). held_by w.batches agent) made ∙ held-with old.batches agent held in
    let sum : count + 1 ≡ length (held_by new.batches agent) = omega (arith, counted, ap (λ (es : List Held). length es) more, length-append (held_by old.batches agent) (held ∷ [])) in
    subst (λ (t : Turn). TurnIs (Holds old k agent edit (hold_cause old.batches agent)) old t new) (sym is)
    (subst (λ (cause : Option ModeCause). Holds old k agent edit cause done.items false new) (sym allowed) (text ∙ ap (λ (n : ℕ). held_text k n) sum, refl, made))

-- the line that says it is answered so
pub own_hold : (old new : World) (k : ℕ) (line : List ℕ) (agent : List ℕ) (rest : ℕ) (edit : Edit) (turn : Turn) → Reads Two (words (drop rest line)) (Change edit)
    → TurnIs (Holds old k agent edit (hold_cause old.batches agent)) old turn new → OwnStep SharingOwn old k line (Hold agent rest) turn new
own_hold old new k line agent rest edit Silent reads never = absurd never
own_hold old new k line agent rest edit Memory reads same = same
own_hold old new k line agent rest edit (ReplyOf bytes refused) reads holds = for_edit edit reads holds

-- all edits are made
pub committed_all : (old new : World) (k : ℕ) (agent : List ℕ) (all : List Taken) (reply : Result (Seq ℕ) Wanting) (turn : Turn)
    → AcceptedInTurn old.list (held_by old.batches agent) all → IfOk reply (λ text. text.items ≡ batch_text k all)
    → TurnIs (Closes reply false (committed old agent)) old turn new → TurnIs (CommitAnswers old k agent) old turn new
committed_all old new k agent all reply Silent accepted is_text never = absurd never
committed_all old new k agent all reply Memory accepted is_text same = same
committed_all old new k agent all (Ok text) (ReplyOf bytes refused) accepted is_text closes = for_all all accepted (closes.0 ∙ is_text) closes.1 closes.2
committed_all old new k agent all (Err failed) (ReplyOf bytes refused) accepted is_text never = absurd never

-- none is made
pub committed_none : (old new : World) (k : ℕ) (agent : List ℕ) (line : ℕ) (refusal : Refusal) (reply : Result (Seq ℕ) Wanting) (turn : Turn)
    → RefusedAt old.list (held_by old.batches agent) line refusal → IfOk reply (λ text. text.items ≡ no_batch_text k line refusal)
    → TurnIs (Closes reply true (discarded old agent)) old turn new → TurnIs (CommitAnswers old k agent) old turn new
committed_none old new k agent line refusal reply Silent refuses is_text never = absurd never
committed_none old new k agent line refusal reply Memory refuses is_text same = same
committed_none old new k agent line refusal (Ok text) (ReplyOf bytes refused) refuses is_text closes = for_none line refusal refuses (closes.0 ∙ is_text) closes.1 closes.2
committed_none old new k agent line refusal (Err failed) (ReplyOf bytes refused) refuses is_text never = absurd never
