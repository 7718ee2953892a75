-- What one more byte, line or piece does to where the reading stands.
use Rattle.std.proofs.Common.{ℕ, ◌+◌, ◌<◌, ◌≤◌, ◌≡◌, ◌≢◌, Bool, true, false, ◌||◌, List, [], ◌∷◌, ◌++◌, length, take, Result, Ok, Err, Option, MatchResult, refl, sym, ap, ◌∙◌, subst, append_assoc, append-nil, arith, inl, inr, length-append, if◌then◌else◌}
use Rattle.std.proofs.lemmas.Bool.{cases_lt}
use Rattle.std.proofs.lemmas.List.{length-take, take_all, take-append-le}
use Rattle.std.proofs.lemmas.List.Elements.{All-append, All-push, All-nil}
use Rattle.std.proofs.lemmas.List.Folds.{list_any-append}
use Rattle.std.proofs.lemmas.Grind.{flat_map-append}
use Rattle.std.proofs.Math.Bool.{or-false}
use Rattle.std.proofs.KnownBytes.{Appends-nil, Appends-trans, Consumes-trans}
use Rattle.std.specs.List.{list_any}
use Rattle.std.specs.Io.KnownBytes.{Appends, Consumes}
use Rattle.tmm_model.specs.declared.turn.Turn.{Turn}
use Rattle.tmm_drive.specs.declared.tally.Tally.{Tally}
use Rattle.tmm_drive.specs.declared.status.Status.{Status}
use Rattle.tmm_drive.specs.declared.status.Status.TheVariants.{Clean, SomeRefused, SomeMemory}
use Rattle.tmm_model.specs.Cuts.{ended, joined, IsLine, SplitsIntoLines, with_rest}
use Rattle.tmm_model.specs.Runs.{turn_text, is_reply, is_refused, is_memory, Run, replies}
use Rattle.tmm_drive.specs.Endings.{BreaksOff, AnswersAll, AnswersEnded, Ends, limit}
use Rattle.tmm_drive.specs.Reading.{most_kept, counted, AnswersLine, ReadSoFar, GoesOn, GivesUp}

-- ---- cutting

joined-push : (lines : List (List ℕ)) (line : List ℕ) → joined (lines ++ line ∷ []) ≡ joined lines ++ ended line
joined-push lines line = flat_map-append ended lines (line ∷ []) ∙ ap (λ l. joined lines ++ l) (append-nil (ended line))

IsCut-part : (text : List ℕ) (lines : List (List ℕ)) (rest part : List ℕ) → IsLine part → SplitsIntoLines text lines rest
    → SplitsIntoLines (text ++ part) lines (rest ++ part)
IsCut-part text lines rest part is_line cut = record {
  whole = ap (λ l. l ++ part) cut.whole ∙ append_assoc (joined lines) rest part;
  each = cut.each;
  last = All-append (λ b. b ≢ 10) rest part cut.last is_line;
}

IsCut-ended : (text : List ℕ) (lines : List (List ℕ)) (rest : List ℕ) → SplitsIntoLines text lines rest
    → SplitsIntoLines (text ++ 10 ∷ []) (lines ++ rest ∷ []) []
IsCut-ended text lines rest cut = record {
  whole = ap (λ l. l ++ 10 ∷ []) cut.whole ∙ append_assoc (joined lines) rest (10 ∷ []) ∙ sym (joined-push lines rest) ∙ sym (append-nil (joined (lines ++ rest ∷ [])));
  each = All-push IsLine lines rest cut.each cut.last;
  last = All-nil (λ b. b ≢ 10);
}

with_rest-some : (lines : List (List ℕ)) (rest : List ℕ) → 0 < length rest → with_rest lines rest ≡ lines ++ rest ∷ []
with_rest-some lines [] some = absurd (omega arith)
with_rest-some lines (byte ∷ rest) some = refl

pub length-zero : (xs : List ℕ) → length xs ≡ 0 → xs ≡ []
length-zero [] e = refl
length-zero (x ∷ xs) e = absurd (omega arith)

-- of a part that is kept and more, as much is kept as of the whole
take-take_append : (n : ℕ) (xs ys : List ℕ) → take n (take n xs ++ ys) ≡ take n (xs ++ ys)
take-take_append n xs ys = elim (cases_lt (length xs) n) [
  | inl short ↦ ap (λ l. take n (l ++ ys)) (take_all n xs (omega arith))
  | inr long ↦ (let len : length (take n xs) ≡ n = omega (arith, length-take n xs) in
      take-append-le n (take n xs) ys (omega arith) ∙ take_all n (take n xs) (omega arith) ∙ sym (take-append-le n xs ys long))
]

-- a read that takes no byte
pub Consumes-none : (a b c : Option (List ℕ)) (taken : List ℕ) (count : ℕ) (buf : List ℕ) → Consumes a b taken → Consumes b c (take count buf) → count ≡ 0
    → Consumes a c taken
Consumes-none a b c taken count buf first second none =
    subst (λ (l : List ℕ). Consumes a c l) (append-nil taken)
    (Consumes-trans a b c taken [] first (subst (λ (n : ℕ). Consumes b c (take n buf)) none second))

-- ---- turns

-- a whole text is told as one of three
pub told_as_three : (P : Status → Type 0) → P Clean → P SomeRefused → P SomeMemory → (memory refused : Bool)
    → P (if memory then SomeMemory else (if refused then SomeRefused else Clean))
told_as_three P clean refused memory true b = memory
told_as_three P clean refused memory false true = refused
told_as_three P clean refused memory false false = clean

replies-push : (k : ℕ) (turns : List Turn) (turn : Turn) → replies k (turns ++ turn ∷ []) ≡ replies k turns ++ turn_text (k + length turns + 1) turn
replies-push k [] turn =
    let e : k + 1 ≡ k + length {A = Turn} [] + 1 = omega arith in
    append-nil (turn_text (k + 1) turn) ∙ ap (λ n. turn_text n turn) e
replies-push k (first ∷ turns) turn =
    let e : (k + 1) + length turns + 1 ≡ k + length (first ∷ turns) + 1 = omega arith in
    ap (λ l. turn_text (k + 1) first ++ l) (replies-push (k + 1) turns turn ∙ ap (λ n. replies (k + 1) turns ++ turn_text n turn) e)
    ∙ sym (append_assoc (turn_text (k + 1) first) (replies (k + 1) turns) (turn_text (k + length (first ∷ turns) + 1) turn))

list_any-push : (test : Turn → Bool) (turns : List Turn) (turn : Turn) (b : Bool) → b ≡ list_any test turns → (b || test turn) ≡ list_any test (turns ++ turn ∷ [])
list_any-push test turns turn b e =
    ap (λ x. x || test turn) e ∙ ap (λ x. list_any test turns || x) (sym (or-false (test turn))) ∙ sym (list_any-append test turns (turn ∷ []))

module _ {S : Type 0} (step : S → ℕ → List ℕ → Turn → S → Type 0) where
  pub Run-push : (old : S) (k : ℕ) (lines : List (List ℕ)) (turns : List Turn) (mid : S) (line : List ℕ) (turn : Turn) (new : S)
      → Run step old k lines turns mid → step mid (k + length lines + 1) line turn new
      → Run step old k (lines ++ line ∷ []) (turns ++ turn ∷ []) new
  Run-push old k [] [] mid line turn new run answers =
      let e : k + length {A = List ℕ} [] + 1 ≡ k + 1 = omega arith in
      let at_old : step old (k + length {A = List ℕ} [] + 1) line turn new = subst (λ (s : S). step s (k + length {A = List ℕ} [] + 1) line turn new) run answers in
      (new, subst (λ (n : ℕ). step old n line turn new) e at_old, refl)
  Run-push old k (first ∷ lines) (earlier ∷ turns) mid line turn new run answers =
      let e : k + length (first ∷ lines) + 1 ≡ (k + 1) + length lines + 1 = omega arith in
      (run.0, run.1, Run-push run.0 (k + 1) lines turns mid line turn new run.2 (subst (λ (n : ℕ). step mid n line turn new) e answers))
  Run-push old k [] (earlier ∷ turns) mid line turn new run answers = absurd run
  Run-push old k (first ∷ lines) [] mid line turn new run answers = absurd run

  pub Run-length : (old : S) (k : ℕ) (lines : List (List ℕ)) (turns : List Turn) (new : S) → Run step old k lines turns new → length turns ≡ length lines
  Run-length old k [] [] new run = refl
  Run-length old k (first ∷ lines) (earlier ∷ turns) new run =
      let e : length turns ≡ length lines = Run-length run.0 (k + 1) lines turns new run.2 in omega (arith, e)
  Run-length old k [] (earlier ∷ turns) new run = absurd run
  Run-length old k (first ∷ lines) [] new run = absurd run

  -- ---- long lines

  abbrev pub LongLines : Type 0
  LongLines = (old new : S) (k : ℕ) (a b : List ℕ) (turn : Turn) → 400 < length a → 400 < length b → step old k a turn new → step old k b turn new

  -- a line is answered as its kept part is
  answers_whole : LongLines → (old new : S) (k : ℕ) (rest : List ℕ) (turn : Turn) → step old k (take most_kept rest) turn new → step old k rest turn new
  answers_whole long old new k rest turn answers = elim (cases_lt 401 (length rest)) [
    | inl more ↦ long old new k (take most_kept rest) rest turn (omega (arith, length-take most_kept rest)) (omega arith) answers
    | inr few ↦ subst (λ (l : List ℕ). step old k l turn new) (take_all most_kept rest few) answers
  ]

  -- ---- where the reading stands

  module _ (start : S) where
    pub Stands-part : (taken output : List ℕ) (now : S) (kept : List ℕ) (tally : Tally) (part : List ℕ) → IsLine part
        → ReadSoFar step start taken output now kept tally → ReadSoFar step start (taken ++ part) output now (take most_kept (kept ++ part)) tally
    Stands-part taken output now kept tally part is_line st = record {
      lines = st.lines;
      rest = st.rest ++ part;
      turns = st.turns;
      cut = IsCut-part taken st.lines st.rest part is_line st.cut;
      run = st.run;
      output_is = st.output_is;
      lines_is = st.lines_is;
      kept_is = ap (λ l. take most_kept (l ++ part)) st.kept_is ∙ take-take_append most_kept st.rest part;
      refused_is = st.refused_is;
      memory_is = st.memory_is;
    }

    -- the number of the next line
    next_number : (taken output : List ℕ) (now : S) (kept : List ℕ) (tally : Tally) → (st : ReadSoFar step start taken output now kept tally)
        → tally.lines + 1 ≡ length st.lines + 1
    next_number taken output now kept tally st = let e = st.lines_is in omega (arith, e)

    -- what answers the kept bytes answers the whole line
    pub answers_kept : LongLines → (taken output : List ℕ) (now : S) (kept : List ℕ) (tally : Tally) (turn : Turn) (new : S) → (st : ReadSoFar step start taken output now kept tally)
        → step now (tally.lines + 1) kept turn new → step now (tally.lines + 1) st.rest turn new
    answers_kept long taken output now kept tally turn new st answers =
        answers_whole long now new (tally.lines + 1) st.rest turn
        (subst (λ (l : List ℕ). step now (tally.lines + 1) l turn new) st.kept_is answers)

    answers_next : (taken output : List ℕ) (now : S) (kept : List ℕ) (tally : Tally) (turn : Turn) (new : S) → (st : ReadSoFar step start taken output now kept tally)
        → step now (tally.lines + 1) st.rest turn new → step now (length st.lines + 1) st.rest turn new
    answers_next taken output now kept tally turn new st answers =
        subst (λ (n : ℕ). step now n st.rest turn new) (next_number taken output now kept tally st) answers

    -- the output with one more reply
    output_next : (taken output : List ℕ) (now : S) (kept : List ℕ) (tally : Tally) (turn : Turn) → (st : ReadSoFar step start taken output now kept tally)
        → output ++ turn_text (tally.lines + 1) turn ≡ replies 0 (st.turns ++ turn ∷ [])
    output_next taken output now kept tally turn st =
        let same = Run-length start 0 st.lines st.turns now st.run in
        let e : tally.lines + 1 ≡ 0 + length st.turns + 1 = omega (arith, same, st.lines_is) in
        ap (λ l. l ++ turn_text (tally.lines + 1) turn) st.output_is ∙ ap (λ n. replies 0 st.turns ++ turn_text n turn) e ∙ sym (replies-push 0 st.turns turn)

    pub run_next : (taken output : List ℕ) (now : S) (kept : List ℕ) (tally : Tally) (turn : Turn) (new : S) → (st : ReadSoFar step start taken output now kept tally)
        → step now (tally.lines + 1) st.rest turn new → Run step start 0 (st.lines ++ st.rest ∷ []) (st.turns ++ turn ∷ []) new
    run_next taken output now kept tally turn new st answers =
        let e : length st.lines + 1 ≡ 0 + length st.lines + 1 = omega arith in
        Run-push start 0 st.lines st.turns now st.rest turn new st.run
        (subst (λ (n : ℕ). step now n st.rest turn new) e (answers_next taken output now kept tally turn new st answers))

    pub Stands-line : (taken output : List ℕ) (now : S) (kept : List ℕ) (tally : Tally) (turn : Turn) (new : S)
        → (st : ReadSoFar step start taken output now kept tally) → step now (tally.lines + 1) st.rest turn new
        → ReadSoFar step start (taken ++ 10 ∷ []) (output ++ turn_text (tally.lines + 1) turn) new [] (counted tally turn)
    Stands-line taken output now kept tally turn new st answers = record {
      lines = st.lines ++ st.rest ∷ [];
      rest = [];
      turns = st.turns ++ turn ∷ [];
      cut = IsCut-ended taken st.lines st.rest st.cut;
      run = run_next taken output now kept tally turn new st answers;
      output_is = output_next taken output now kept tally turn st;
      lines_is = omega (arith, length-append st.lines (st.rest ∷ []), st.lines_is);
      kept_is = sym (take_all most_kept [] (omega arith));
      refused_is = list_any-push is_refused st.turns turn tally.refused st.refused_is;
      memory_is = list_any-push is_memory st.turns turn tally.memory st.memory_is;
    }

    -- a write fails in the reply to a line that ends here
    pub BreaksOff-ended : (taken output : List ℕ) (now : S) (kept : List ℕ) (tally : Tally) (turn : Turn) (new : S) (part : ℕ)
        → (st : ReadSoFar step start taken output now kept tally) → step now (tally.lines + 1) st.rest turn new → is_reply turn ≡ true
        → BreaksOff step start ⊥ (taken ++ 10 ∷ []) (output ++ take part (turn_text (tally.lines + 1) turn))
    BreaksOff-ended taken output now kept tally turn new part st answers replied = record {
      lines = st.lines;
      line = st.rest;
      turns = st.turns;
      turn = turn;
      mid = now;
      after = new;
      part = part;
      each = st.cut.each;
      is_line = st.cut.last;
      next = inl ([], ap (λ l. l ++ 10 ∷ []) st.cut.whole ∙ append_assoc (joined st.lines) st.rest (10 ∷ []) ∙ sym (append-nil (joined st.lines ++ ended st.rest)));
      run = st.run;
      answers = answers_next taken output now kept tally turn new st answers;
      not_silent = replied;
      output_is = ap (λ l. l ++ take part (turn_text (tally.lines + 1) turn)) st.output_is ∙ ap (λ n. replies 0 st.turns ++ take part (turn_text n turn)) (next_number taken output now kept tally st);
    }

    -- a write fails in the reply to the last line, which has no byte 10
    pub BreaksOff-last : (at_end : Type 0) (taken output : List ℕ) (now : S) (kept : List ℕ) (tally : Tally) (turn : Turn) (new : S) (part : ℕ)
        → at_end → 0 < length kept → (st : ReadSoFar step start taken output now kept tally) → step now (tally.lines + 1) st.rest turn new → is_reply turn ≡ true
        → BreaksOff step start at_end taken (output ++ take part (turn_text (tally.lines + 1) turn))
    BreaksOff-last at_end taken output now kept tally turn new part end some st answers replied =
        let len : length kept ≡ length (take most_kept st.rest) = ap length st.kept_is in
        record {
          lines = st.lines;
          line = st.rest;
          turns = st.turns;
          turn = turn;
          mid = now;
          after = new;
          part = part;
          each = st.cut.each;
          is_line = st.cut.last;
          next = inr (omega (arith, length-take most_kept st.rest, len), st.cut.whole, end);
          run = st.run;
          answers = answers_next taken output now kept tally turn new st answers;
          not_silent = replied;
          output_is = ap (λ l. l ++ take part (turn_text (tally.lines + 1) turn)) st.output_is ∙ ap (λ n. replies 0 st.turns ++ take part (turn_text n turn)) (next_number taken output now kept tally st);
        }

    pub BreaksOff-weaker : (P Q : Type 0) → (P → Q) → (taken output : List ℕ) → BreaksOff step start P taken output → BreaksOff step start Q taken output
    BreaksOff-weaker P Q so taken output off = record {
      lines = off.lines;
      line = off.line;
      turns = off.turns;
      turn = off.turn;
      mid = off.mid;
      after = off.after;
      part = off.part;
      each = off.each;
      is_line = off.is_line;
      next = elim off.next [ inl ended_by ↦ inl ended_by | inr at_last ↦ inr (at_last.0, at_last.1, so at_last.2) ];
      run = off.run;
      answers = off.answers;
      not_silent = off.not_silent;
      output_is = off.output_is;
    }

    -- what comes behind the line doesn't matter
    pub BreaksOff-more : (at_end : Type 0) (taken output more : List ℕ) → BreaksOff step start ⊥ taken output → BreaksOff step start at_end (taken ++ more) output
    BreaksOff-more at_end taken output more off = record {
      lines = off.lines;
      line = off.line;
      turns = off.turns;
      turn = off.turn;
      mid = off.mid;
      after = off.after;
      part = off.part;
      each = off.each;
      is_line = off.is_line;
      next = elim off.next [
        | inl ended_by ↦ inl (ended_by.0 ++ more, ap (λ l. l ++ more) ended_by.1 ∙ append_assoc (joined off.lines ++ ended off.line) ended_by.0 more)
        | inr at_last ↦ absurd at_last.2
      ];
      run = off.run;
      answers = off.answers;
      not_silent = off.not_silent;
      output_is = off.output_is;
    }

    -- ---- a line is answered, and its reply is written

    pub line_goes_on : {E : Type 0} → (taken output : List ℕ) (now : S) (kept : List ℕ) (before : Tally) (given : List ℕ) (new : S) (none : List ℕ) (after : Tally)
        (held holds : Option (List ℕ)) (result : Result (Unit {0}) E) (text : List ℕ) → taken ++ 10 ∷ [] ≡ text
        → (st : ReadSoFar step start taken output now kept before) → ((turn : Turn) → step now (before.lines + 1) given turn new → step now (before.lines + 1) st.rest turn new)
        → AnswersLine step now given new before after held holds result → none ≡ []
        → MatchResult result (λ _. GoesOn step start text output held holds new none after) (λ _. GivesUp step start ⊥ text output held holds)
    line_goes_on taken output now kept before given new none after held holds (Ok done) text e st whole answered cleared =
        let reply = turn_text (before.lines + 1) answered.turn in
        let stands = Stands-line taken output now kept before answered.turn new st (whole answered.turn answered.answers) in (
          reply,
          answered.writes,
          subst (λ (l : List ℕ). ReadSoFar step start l (output ++ reply) new none after) e
              (subst (λ (l : List ℕ). ReadSoFar step start (taken ++ 10 ∷ []) (output ++ reply) new l after) (sym cleared)
              (subst (λ (t : Tally). ReadSoFar step start (taken ++ 10 ∷ []) (output ++ reply) new [] t) (sym answered.counted_is) stands)),
        )
    line_goes_on taken output now kept before given new none after held holds (Err failed) text e st whole answered cleared =
        let part = answered.writes.0 in (
          take part (turn_text (before.lines + 1) answered.turn),
          answered.writes.1,
          subst (λ (l : List ℕ). BreaksOff step start ⊥ l (output ++ take part (turn_text (before.lines + 1) answered.turn))) e
              (BreaksOff-ended taken output now kept before answered.turn new part st (whole answered.turn answered.answers) answered.silent_is_ok),
        )

    -- nothing is kept of a line that lies whole in a piece
    pub answers_part : (taken output : List ℕ) (now : S) (kept : List ℕ) (tally : Tally) (part : List ℕ) (is_line : IsLine part) (new : S) → kept ≡ []
        → (st : ReadSoFar step start taken output now kept tally) (turn : Turn)
        → step now (tally.lines + 1) part turn new → step now (tally.lines + 1) (Stands-part taken output now kept tally part is_line st).rest turn new
    unfolding Stands-part
    answers_part taken output now kept tally part is_line new none st turn answers =
        let len : length kept ≡ length (take most_kept st.rest) = ap length st.kept_is in
        let kept_none : length kept ≡ 0 = ap length none in
        let e : st.rest ≡ [] = length-zero st.rest (omega (arith, length-take most_kept st.rest, len, kept_none)) in
        subst (λ (l : List ℕ). step now (tally.lines + 1) (l ++ part) turn new) (sym e) answers

    -- ---- pieces

    -- bytes, and then more
    pub GoesOn-then : (taken output bytes more : List ℕ) (now new : S) (kept new_kept : List ℕ) (tally new_tally : Tally)
        (held holds will : Option (List ℕ)) (all : List ℕ) → all ≡ bytes ++ more
        → GoesOn step start (taken ++ bytes) output held holds now kept tally
        → ((sent : List ℕ) → ReadSoFar step start (taken ++ bytes) sent now kept tally → GoesOn step start ((taken ++ bytes) ++ more) sent holds will new new_kept new_tally)
        → GoesOn step start (taken ++ all) output held will new new_kept new_tally
    GoesOn-then taken output bytes more now new kept new_kept tally new_tally held holds will all e on onward =
        let next = onward (output ++ on.0) on.2 in
        let same : (taken ++ bytes) ++ more ≡ taken ++ all = append_assoc taken bytes more ∙ ap (λ l. taken ++ l) (sym e) in (
          on.0 ++ next.0,
          Appends-trans held holds will on.0 next.0 on.1 next.1,
          subst (λ (l : List ℕ). ReadSoFar step start (taken ++ all) l new new_kept new_tally) (append_assoc output on.0 next.0)
              (subst (λ (l : List ℕ). ReadSoFar step start l ((output ++ on.0) ++ next.0) new new_kept new_tally) same next.2),
        )

    -- bytes, and then some that end no line
    pub GoesOn-part : (taken output bytes part : List ℕ) (now : S) (kept : List ℕ) (tally : Tally) (held holds : Option (List ℕ)) (all more_kept : List ℕ)
        → bytes ++ part ≡ all → IsLine part → more_kept ≡ take most_kept (kept ++ part)
        → GoesOn step start (taken ++ bytes) output held holds now kept tally → GoesOn step start (taken ++ all) output held holds now more_kept tally
    GoesOn-part taken output bytes part now kept tally held holds all more_kept e is_line keeps on = (
      on.0,
      on.1,
      subst (λ (l : List ℕ). ReadSoFar step start l (output ++ on.0) now more_kept tally) (append_assoc taken bytes part ∙ ap (λ l. taken ++ l) e)
          (subst (λ (l : List ℕ). ReadSoFar step start ((taken ++ bytes) ++ part) (output ++ on.0) now l tally) (sym keeps)
          (Stands-part (taken ++ bytes) (output ++ on.0) now kept tally part is_line on.2)),
    )

    -- bytes, and then some at which a write fails
    pub GivesUp-then : (taken output bytes more : List ℕ) (now : S) (kept : List ℕ) (tally : Tally)
        (held holds will : Option (List ℕ)) (text : List ℕ) → text ≡ (taken ++ bytes) ++ more
        → GoesOn step start taken output held holds now kept tally
        → ((sent : List ℕ) → ReadSoFar step start taken sent now kept tally → GivesUp step start ⊥ (taken ++ bytes) sent holds will)
        → GivesUp step start ⊥ text output held will
    GivesUp-then taken output bytes more now kept tally held holds will text e on onward =
        let next = onward (output ++ on.0) on.2 in (
          on.0 ++ next.0,
          Appends-trans held holds will on.0 next.0 on.1 next.1,
          subst (λ (l : List ℕ). BreaksOff step start ⊥ text l) (append_assoc output on.0 next.0)
              (subst (λ (l : List ℕ). BreaksOff step start ⊥ l ((output ++ on.0) ++ next.0)) (sym e)
              (BreaksOff-more ⊥ (taken ++ bytes) ((output ++ on.0) ++ next.0) more next.2)),
        )

    -- nothing yet
    pub GoesOn-none : (taken output : List ℕ) (now : S) (kept : List ℕ) (tally : Tally) (held : Option (List ℕ))
        → ReadSoFar step start taken output now kept tally → GoesOn step start (taken ++ []) output held held now kept tally
    GoesOn-none taken output now kept tally held st = (
      [],
      Appends-nil held,
      subst (λ (l : List ℕ). ReadSoFar step start l (output ++ []) now kept tally) (sym (append-nil taken))
          (subst (λ (l : List ℕ). ReadSoFar step start taken l now kept tally) (sym (append-nil output)) st),
    )

    -- before the first byte
    pub Stands-none : ReadSoFar step start [] [] start [] (record { lines = 0; refused = false; memory = false })
    Stands-none = record {
      lines = [];
      rest = [];
      turns = [];
      cut = record { whole = refl; each = All-nil IsLine; last = All-nil (λ b. b ≢ 10) };
      run = refl;
      output_is = refl;
      lines_is = refl;
      kept_is = sym (take_all most_kept [] (omega arith));
      refused_is = refl;
      memory_is = refl;
    }

    -- ---- the end of the text

    -- a text that is read to its end, and has no open line
    pub AnswersAll-ended : (taken output : List ℕ) (now : S) (kept : List ℕ) (tally : Tally) (status : Status) → kept ≡ []
        → status ≡ (if tally.memory then SomeMemory else (if tally.refused then SomeRefused else Clean))
        → ReadSoFar step start taken output now kept tally → AnswersAll step start taken output status
    AnswersAll-ended taken output now kept tally status none told st =
        let len : length kept ≡ length (take most_kept st.rest) = ap length st.kept_is in
        let kept_none : length kept ≡ 0 = ap length none in
        let e : st.rest ≡ [] = length-zero st.rest (omega (arith, length-take most_kept st.rest, len, kept_none)) in
        record {
          lines = st.lines;
          rest = [];
          turns = st.turns;
          end = now;
          cut = subst (λ (l : List ℕ). SplitsIntoLines taken st.lines l) e st.cut;
          run = st.run;
          output_is = st.output_is;
          status_is = told ∙ ap (λ b. if b then SomeMemory else (if tally.refused then SomeRefused else Clean)) st.memory_is
              ∙ ap (λ b. if list_any is_memory st.turns then SomeMemory else (if b then SomeRefused else Clean)) st.refused_is;
        }

    -- a text that is read to its end, whose last line is answered
    pub AnswersAll-last : (taken output : List ℕ) (now : S) (kept : List ℕ) (before after : Tally) (status : Status) (turn : Turn) (new : S)
        → 0 < length kept → after ≡ counted before turn
        → status ≡ (if after.memory then SomeMemory else (if after.refused then SomeRefused else Clean))
        → (st : ReadSoFar step start taken output now kept before) → step now (before.lines + 1) st.rest turn new
        → AnswersAll step start taken (output ++ turn_text (before.lines + 1) turn) status
    AnswersAll-last taken output now kept before after status turn new some counts told st answers =
        let len : length kept ≡ length (take most_kept st.rest) = ap length st.kept_is in
        let e : with_rest st.lines st.rest ≡ st.lines ++ st.rest ∷ [] = with_rest-some st.lines st.rest (omega (arith, length-take most_kept st.rest, len)) in
        let refused : after.refused ≡ list_any is_refused (st.turns ++ turn ∷ []) = ap (λ (t : Tally). t.refused) counts ∙ list_any-push is_refused st.turns turn before.refused st.refused_is in
        let memory : after.memory ≡ list_any is_memory (st.turns ++ turn ∷ []) = ap (λ (t : Tally). t.memory) counts ∙ list_any-push is_memory st.turns turn before.memory st.memory_is in
        record {
          lines = st.lines;
          rest = st.rest;
          turns = st.turns ++ turn ∷ [];
          end = new;
          cut = st.cut;
          run = subst (λ (l : List (List ℕ)). Run step start 0 l (st.turns ++ turn ∷ []) new) (sym e) (run_next taken output now kept before turn new st answers);
          output_is = output_next taken output now kept before turn st;
          status_is = told ∙ ap (λ b. if b then SomeMemory else (if after.refused then SomeRefused else Clean)) memory
              ∙ ap (λ b. if list_any is_memory (st.turns ++ turn ∷ []) then SomeMemory else (if b then SomeRefused else Clean)) refused;
        }

    -- only three statuses tell of a whole text
    pub Ends-all : (at_end : Type 0) (taken output : List ℕ) (status : Status) → length taken ≤ limit → at_end → AnswersAll step start taken output status → Ends step start at_end taken output status
    Ends-all at_end taken output status few end all =
        let P : Status → Type 0 = λ t. (length taken ≤ limit) × at_end × AnswersAll step start taken output t → Ends step start at_end taken output t in
        subst P (sym all.status_is) (told_as_three P (λ h. h) (λ h. h) (λ h. h) (list_any is_memory all.turns) (list_any is_refused all.turns)) (few, end, all)

    -- the ended lines are answered
    pub AnswersEnded-now : (taken output : List ℕ) (now : S) (kept : List ℕ) (tally : Tally) → ReadSoFar step start taken output now kept tally → AnswersEnded step start taken output
    AnswersEnded-now taken output now kept tally st = record {
      lines = st.lines;
      rest = st.rest;
      turns = st.turns;
      end = now;
      cut = st.cut;
      run = st.run;
      output_is = st.output_is;
    }

    -- the last line is answered, and its reply is written
    pub last_goes_on : {E : Type 0} → LongLines → (taken output : List ℕ) (now : S) (kept : List ℕ) (before : Tally) (new : S) (after : Tally) (status : Status)
        (held holds : Option (List ℕ)) (result : Result (Unit {0}) E) → 0 < length kept
        → status ≡ (if after.memory then SomeMemory else (if after.refused then SomeRefused else Clean))
        → ReadSoFar step start taken output now kept before → AnswersLine step now kept new before after held holds result
        → MatchResult result (λ _. (more : List ℕ) × Appends held holds more × AnswersAll step start taken (output ++ more) status)
        (λ _. GivesUp step start (Unit {0}) taken output held holds)
    last_goes_on long taken output now kept before new after status held holds (Ok done) some told st answered = (
      turn_text (before.lines + 1) answered.turn,
      answered.writes,
      AnswersAll-last taken output now kept before after status answered.turn new some answered.counted_is told st (answers_kept long taken output now kept before answered.turn new st answered.answers),
    )
    last_goes_on long taken output now kept before new after status held holds (Err failed) some told st answered =
        let part = answered.writes.0 in (
          take part (turn_text (before.lines + 1) answered.turn),
          answered.writes.1,
          BreaksOff-last (Unit {0}) taken output now kept before answered.turn new part tt some st (answers_kept long taken output now kept before answered.turn new st answered.answers) answered.silent_is_ok,
        )

    -- a piece is read, and gone through
    pub reads_on : (a b c held holds will : Option (List ℕ)) (taken output bytes piece : List ℕ) (new : S) (kept : List ℕ) (tally : Tally) (n m : ℕ)
        → Consumes a b taken → Consumes b c bytes → bytes ≡ piece → Appends held holds output
        → GoesOn step start (taken ++ piece) output holds will new kept tally → length taken ≡ n → length bytes ≡ m
        → (all : List ℕ) × (sent : List ℕ) × Consumes a c all × Appends held will sent × (length all ≡ n + m) × ReadSoFar step start all sent new kept tally
    reads_on a b c held holds will taken output bytes piece new kept tally n m first second same wrote on long more = (
      taken ++ bytes,
      output ++ on.0,
      Consumes-trans a b c taken bytes first second,
      Appends-trans held holds will output on.0 wrote on.1,
      omega (arith, length-append taken bytes, long, more),
      subst (λ (l : List ℕ). ReadSoFar step start (taken ++ l) (output ++ on.0) new kept tally) (sym same) on.2,
    )

    -- a piece is read, and a write fails
    pub reads_off : (at_end : Type 0) (a b c held holds will : Option (List ℕ)) (taken output bytes piece : List ℕ) (n m : ℕ)
        → Consumes a b taken → Consumes b c bytes → bytes ≡ piece → Appends held holds output
        → GivesUp step start ⊥ (taken ++ piece) output holds will → length taken ≡ n → length bytes ≡ m → n + m ≤ limit
        → (all : List ℕ) × (sent : List ℕ) × Consumes a c all × Appends held will sent × ((length all ≤ limit) × BreaksOff step start at_end all sent)
    reads_off at_end a b c held holds will taken output bytes piece n m first second same wrote off long more few = (
      taken ++ bytes,
      output ++ off.0,
      Consumes-trans a b c taken bytes first second,
      Appends-trans held holds will output off.0 wrote off.1,
      (
        omega (arith, length-append taken bytes, long, more),
        BreaksOff-weaker ⊥ at_end (λ never. absurd never) (taken ++ bytes) (output ++ off.0)
            (subst (λ (l : List ℕ). BreaksOff step start ⊥ (taken ++ l) (output ++ off.0)) (sym same) off.2),
      ),
    )
