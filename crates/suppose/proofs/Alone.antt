-- Lines that stay above some maps might have come without one of these.
use Rattle.std.proofs.Common.{◌≡◌, ℕ, ◌+◌, ◌<◌, ◌≤◌, Bool, true, false, List, [], ◌∷◌, ◌++◌, length, length-append, append_assoc, Option, Some, None, refl, sym, ap, ◌∙◌, subst, arith}
use Rattle.std.specs.Prelude.{nat_lt, decimal, codes, ◌≢◌}
use Rattle.std.specs.List.{flat_map}
use Rattle.std.proofs.lemmas.Bool.{lt-ltb, ltb-true}
use Rattle.tmm_model.specs.declared.mode.Mode.TheVariants.{Suppose as Supposing}
use Rattle.tmm_model.specs.declared.mode.ModeCause.{ModeCause}
use Rattle.tmm_model.specs.declared.mode.ModeCause.TheVariants.{LimitSuppose}
use Rattle.tmm_model.specs.declared.mode.ModeLine.{ModeLine}
use Rattle.tmm_model.specs.declared.mode.ModeLine.TheVariants.{Suppose, Keep, Drop, Hold, Commit, Discard, Repairs, Timeline}
use Rattle.tmm_model.specs.declared.turn.Turn.{Turn}
use Rattle.tmm_model.specs.declared.turn.Turn.TheVariants.{Silent, Reply as ReplyOf, Memory}
use Rattle.tmm_model.specs.Modes.{where_true, own_ok, own_no, mode_cause_words}
use Rattle.tmm_model.specs.Lines.{behind_spaces}
use Rattle.tmm_model.specs.Replies.{Reply, Accepted, Refused, BoundsAre, PathIs, Answered, Reasons, BrokenAre, Believed, DumpIs, AuditYes, SizeIs, head_line, line_of, text_of, two, opening_lines, bound_word, refusal_words, refusal_lines, change_lines, step_lines, answer_words, blame_lines, why_lines, report_lines, row_line}
use Rattle.tmm_model.specs.Runs.{Run, turn_text}
use Rattle.tmm_model.specs.Standing.{Standing}
use Rattle.tmm_model.specs.Transcript.{Step}
use Rattle.mode_session.specs.ModeSteps.{own_line, StepAs}
use Rattle.suppose.specs.Worlds.{World, SupposeOwn, TopStep, SupposeStep, Answers, after, cause_of, in_place, nearest_of}
use Rattle.suppose.specs.Suppositions.{AboveUnlimited, SameTurn, SameTurns, KeptAreAsAlone}
use Rattle.suppose.proofs.Moves.{begun_is, done_after, flat}

-- ---- a reply but for its number

-- what stands behind the number
abbrev Numbered : (ℕ → List ℕ) → Type 0
Numbered text = (rest : List ℕ) × ((k : ℕ) → text k ≡ decimal k ++ rest)

head_numbered : (words : List (List ℕ)) → Numbered (λ k. head_line k words)
head_numbered words = (behind_spaces words ++ 10 ∷ [], λ k. append_assoc (decimal k) (behind_spaces words) (10 ∷ []))

more_numbered : (text : ℕ → List ℕ) (more : List ℕ) → Numbered text → Numbered (λ k. text k ++ more)
more_numbered text more is = (is.0 ++ more, λ k. ap (λ (l : List ℕ). l ++ more) (is.1 k) ∙ append_assoc (decimal k) is.0 more)

text_numbered : (reply : Reply) → Numbered (λ k. text_of k reply)
text_numbered (Accepted changes) = more_numbered (λ k. head_line k (codes "ok" ∷ [])) (change_lines changes) (head_numbered (codes "ok" ∷ []))
text_numbered (Refused refusal) = more_numbered (λ k. head_line k (codes "no" ∷ refusal_words refusal)) (refusal_lines refusal) (head_numbered (codes "no" ∷ refusal_words refusal))
text_numbered (BoundsAre lo hi) = head_numbered (codes "bounds" ∷ bound_word lo ∷ bound_word hi ∷ [])
text_numbered (PathIs far steps) = more_numbered (λ k. head_line k (codes "path" ∷ bound_word far ∷ [])) (step_lines two steps) (head_numbered (codes "path" ∷ bound_word far ∷ []))
text_numbered (Answered answer) = more_numbered (λ k. head_line k (answer_words answer)) (blame_lines two answer) (head_numbered (answer_words answer))
text_numbered (Reasons lines) = more_numbered (λ k. head_line k (codes "why" ∷ [])) (flat_map why_lines lines) (head_numbered (codes "why" ∷ []))
text_numbered (BrokenAre reports) =
    more_numbered (λ k. head_line k (codes "check" ∷ decimal (length reports) ∷ [])) (flat_map report_lines reports) (head_numbered (codes "check" ∷ decimal (length reports) ∷ []))
text_numbered (Believed rows) = more_numbered (λ k. head_line k (codes "list" ∷ decimal (length rows) ∷ [])) (flat_map row_line rows) (head_numbered (codes "list" ∷ decimal (length rows) ∷ []))
text_numbered (DumpIs version horizon premises) =
    more_numbered (λ k. head_line k (codes "dump" ∷ decimal (length premises) ∷ []) ++ opening_lines version horizon) (flat_map (λ premise. line_of two (premise ∷ [])) premises)
    (more_numbered (λ k. head_line k (codes "dump" ∷ decimal (length premises) ∷ [])) (opening_lines version horizon) (head_numbered (codes "dump" ∷ decimal (length premises) ∷ [])))
text_numbered AuditYes = head_numbered (codes "audit" ∷ codes "yes" ∷ [])
text_numbered (SizeIs n) = head_numbered (codes "size" ∷ decimal n ∷ [])

-- the reply of these bytes
abbrev reply_of : List ℕ → Bool → Turn
reply_of bytes refused = ReplyOf (record { items = bytes; room = 0 }) refused

-- a step under another number
pub record StepAgain (old : Standing) (k i : ℕ) (line : List ℕ) (turn : Turn) (new : Standing) : Type 0 where
  pub other : Turn
  pub step : Step old i line other new
  pub same : SameTurn k turn i other

step_again : (old : Standing) (k i : ℕ) (line : List ℕ) (turn : Turn) (new : Standing) → Step old k line turn new → StepAgain old k i line turn new
step_again old k i line Silent new step = record { other = Silent; step = step; same = tt }
step_again old k i line Memory new step = record { other = Memory; step = step; same = tt }
step_again old k i line (ReplyOf bytes refused) new (reply, answers, is, kind) =
    let numbered = text_numbered reply in
    record {
      other = reply_of (text_of i reply) refused;
      step = (reply, answers, refl, kind);
      same = (numbered.0, is ∙ numbered.1 k, numbered.1 i, refl);
    }

-- ---- a line of a world, and of one without a map below

-- from a world of this top and these maps above the others a line may have another turn, and leave
-- the new top, and what stands above the others then
pub record Again (base : List Standing) (said : Option ModeLine) (alone : World) (b : Standing) (k i : ℕ) (line : List ℕ) (turn : Turn) (new : World) : Type 0 where
  pub upper : List Standing
  pub is : new.below ≡ upper ++ b ∷ base
  pub other : Turn
  pub step : StepAs Supposing SupposeOwn TopStep said alone i line other (record { top = new.top; below = upper ++ base })
  pub same : SameTurn k turn i other

-- the same parts
abbrev world : Standing → List Standing → World
world top below = record { top = top; below = below }

same_ok : (k i : ℕ) (bytes : List ℕ) (refused : Bool) (room : ℕ) → bytes ≡ own_ok k → refused ≡ false
    → SameTurn k (ReplyOf (record { items = bytes; room = room }) refused) i (reply_of (own_ok i) false)
same_ok k i bytes refused room is free =
    let numbered = head_numbered (codes "ok" ∷ []) in
    (numbered.0, is ∙ numbered.1 k, numbered.1 i, sym free)

same_no : (k i : ℕ) (cause : ModeCause) (bytes : List ℕ) (refused : Bool) (room : ℕ) → bytes ≡ own_no k cause → refused ≡ true
    → SameTurn k (ReplyOf (record { items = bytes; room = room }) refused) i (reply_of (own_no i cause) true)
same_no k i cause bytes refused room is free =
    let numbered = head_numbered (codes "no" ∷ mode_cause_words cause) in
    (numbered.0, is ∙ numbered.1 k, numbered.1 i, sym free)

module _ (b : Standing) (base : List Standing) (old new : World) (k i : ℕ) (line bytes : List ℕ) (refused : Bool) (room : ℕ) where
  -- what is asked for one form
  abbrev Goal : List Standing → ModeLine → Type 0
  Goal upper form = Again base (Some form) (world old.top (upper ++ base)) b k i line (ReplyOf (record { items = bytes; room = room }) refused) new

  kept_again : (upper : List Standing) → length (b ∷ base) ≤ length new.below → Answers old k (cause_of Keep) (in_place old.top (upper ++ b ∷ base)) bytes refused new → Goal upper Keep
  kept_again [] over answers = absurd (omega (arith, over, ap (λ (w : World). length w.below) answers.2))
  kept_again (u ∷ upper) over answers = record {
    upper = upper;
    is = ap (λ (w : World). w.below) answers.2;
    other = reply_of (own_ok i) false;
    step = (refl, refl, ap (λ (w : World). world w.top (upper ++ base)) answers.2);
    same = same_ok k i bytes refused room answers.0 answers.1;
  }

  dropped_again : (upper : List Standing) → length (b ∷ base) ≤ length new.below → Answers old k (cause_of Drop) (nearest_of (upper ++ b ∷ base)) bytes refused new → Goal upper Drop
  dropped_again [] over answers = absurd (omega (arith, over, ap (λ (w : World). length w.below) answers.2))
  dropped_again (u ∷ upper) over answers = record {
    upper = upper;
    is = ap (λ (w : World). w.below) answers.2;
    other = reply_of (own_ok i) false;
    step = (refl, refl, ap (λ (w : World). world w.top (upper ++ base)) answers.2);
    same = same_ok k i bytes refused room answers.0 answers.1;
  }

  -- a line that is refused and changes nothing
  refused_again : (upper : List Standing) → old.below ≡ upper ++ b ∷ base → (form : ModeLine) → ((w : World) → after form w ≡ None)
      → Answers old k (cause_of form) None bytes refused new → Goal upper form
  refused_again upper was form never answers = record {
    upper = upper;
    is = ap (λ (w : World). w.below) answers.2 ∙ was;
    other = reply_of (own_no i (cause_of form)) true;
    step = subst (λ (next : Option World). Answers (world old.top (upper ++ base)) i (cause_of form) next (own_no i (cause_of form)) true (world new.top (upper ++ base))) (sym (never (world old.top (upper ++ base))))
        (refl, refl, ap (λ (w : World). world w.top (upper ++ base)) answers.2);
    same = same_no k i (cause_of form) bytes refused room answers.0 answers.1;
  }

  supposed_again : (upper : List Standing) → old.below ≡ upper ++ b ∷ base → bytes ≢ own_no k LimitSuppose → (has_room : Bool) → nat_lt (length old.below) 8 ≡ has_room
      → Answers old k LimitSuppose (where_true has_room (world old.top (old.top ∷ old.below))) bytes refused new → Goal upper Suppose
  supposed_again upper was free false tells answers = absurd (free answers.0)
  supposed_again upper was free true tells answers =
      let fewer : length (upper ++ base) < 8 = omega (arith, ltb-true (length old.below) 8 tells, ap (λ (l : List Standing). length l) was, length-append upper (b ∷ base), length-append upper base) in
      record {
        upper = old.top ∷ upper;
        is = ap (λ (w : World). w.below) answers.2 ∙ ap (λ (l : List Standing). old.top ∷ l) was;
        other = reply_of (own_ok i) false;
        step = subst (λ (r : Bool). Answers (world old.top (upper ++ base)) i LimitSuppose (where_true r (world old.top (old.top ∷ (upper ++ base)))) (own_ok i) false (world new.top (old.top ∷ (upper ++ base))))
            (sym (lt-ltb (length (upper ++ base)) 8 fewer))
            (refl, refl, ap (λ (w : World). world w.top (old.top ∷ (upper ++ base))) answers.2);
        same = same_ok k i bytes refused room answers.0 answers.1;
      }

  own_again : (upper : List Standing) → old.below ≡ upper ++ b ∷ base → length (b ∷ base) ≤ length new.below → bytes ≢ own_no k LimitSuppose
      → (form : ModeLine) → SupposeOwn old k line form bytes refused new → Goal upper form
  own_again upper was over free Suppose answers = supposed_again upper was free (nat_lt (length old.below) 8) refl answers
  own_again upper was over free Keep answers =
      kept_again upper over (subst (λ (l : List Standing). Answers old k (cause_of Keep) (in_place old.top l) bytes refused new) was answers)
  own_again upper was over free Drop answers =
      dropped_again upper over (subst (λ (l : List Standing). Answers old k (cause_of Drop) (nearest_of l) bytes refused new) was answers)
  own_again upper was over free (Hold agent rest) answers = refused_again upper was (Hold agent rest) (λ _. refl) answers
  own_again upper was over free (Commit agent) answers = refused_again upper was (Commit agent) (λ _. refl) answers
  own_again upper was over free (Discard agent) answers = refused_again upper was (Discard agent) (λ _. refl) answers
  own_again upper was over free (Repairs name) answers = refused_again upper was (Repairs name) (λ _. refl) answers
  own_again upper was over free Timeline answers = refused_again upper was Timeline (λ _. refl) answers

step_of : (b : Standing) (base : List Standing) (old new : World) (k i : ℕ) (line : List ℕ) (turn : Turn) (said : Option ModeLine) (upper : List Standing)
    → old.below ≡ upper ++ b ∷ base → length (b ∷ base) ≤ length new.below → turn_text k turn ≢ own_no k LimitSuppose
    → StepAs Supposing SupposeOwn TopStep said old k line turn new → Again base said (world old.top (upper ++ base)) b k i line turn new
step_of b base old new k i line turn None upper was over free step =
    let again = step_again old.top k i line turn new.top step.0 in
    record { upper = upper; is = step.1 ∙ was; other = again.other; step = (again.step, refl); same = again.same }
step_of b base old new k i line Silent (Some form) upper was over free never = absurd never
step_of b base old new k i line Memory (Some form) upper was over free same =
    record { upper = upper; is = ap (λ (w : World). w.below) same ∙ was; other = Memory; step = ap (λ (w : World). world w.top (upper ++ base)) same; same = tt }
step_of b base old new k i line (ReplyOf bytes refused) (Some form) upper was over free answers =
    own_again b base old new k i line bytes.items refused bytes.room upper was over free form answers

-- ---- all lines

record RunAgain (b : Standing) (base : List Standing) (alone : World) (k i : ℕ) (lines : List (List ℕ)) (turns : List Turn) (new : World) : Type 0 where
  pub upper : List Standing
  pub is : new.below ≡ upper ++ b ∷ base
  pub others : List Turn
  pub run : Run SupposeStep alone i lines others (world new.top (upper ++ base))
  pub same : SameTurns k turns i others

run_again : (b : Standing) (base : List Standing) (depth : ℕ) (old new : World) (k i : ℕ) (lines : List (List ℕ)) (turns : List Turn) (upper : List Standing)
    → length (b ∷ base) ≡ depth + 1 → old.below ≡ upper ++ b ∷ base → Run (AboveUnlimited depth) old k lines turns new
    → RunAgain b base (world old.top (upper ++ base)) k i lines turns new
run_again b base depth old new k i [] [] upper size was same =
    record { upper = upper; is = ap (λ (w : World). w.below) same ∙ was; others = []; run = ap (λ (w : World). world w.top (upper ++ base)) same; same = tt }
run_again b base depth old new k i (line ∷ lines) (turn ∷ turns) upper size was (mid, step, rest) =
    let first = step_of b base old mid (k + 1) (i + 1) line turn (own_line Supposing line) upper was (omega (arith, size, step.0.1)) step.1 step.0.0 in
    let behind = run_again b base depth mid new (k + 1) (i + 1) lines turns first.upper size first.is rest in
    record { upper = behind.upper; is = behind.is; others = first.other ∷ behind.others; run = (world mid.top (first.upper ++ base), first.step, behind.run); same = (first.same, behind.same) }
run_again b base depth old new k i [] (turn ∷ turns) upper size was never = absurd never
run_again b base depth old new k i (line ∷ lines) [] upper size was never = absurd never

-- what is kept
kept_is : (top b : Standing) (below : List Standing) (new : World) → in_place top (b ∷ below) ≡ Some new → new ≡ world top below
kept_is top b below new made = cc

kept_size : (top : Standing) (l : List Standing) (new : World) → in_place top l ≡ Some new → length l ≡ length new.below + 1
kept_size top [] new never = cc
kept_size top (b ∷ below) new made = omega (arith, ap (λ (w : World). length w.below) (kept_is top b below new made))

pub kept_alone : KeptAreAsAlone
kept_alone w begun ended end k j n i lines turns first run last size =
    let begin : begun ≡ world w.top (w.top ∷ w.below) = begun_is w begun k first in
    let again : RunAgain w.top w.below (world begun.top w.below) j i lines turns ended =
    run_again w.top w.below (length w.below) begun ended j i lines turns [] (omega arith) (ap (λ (v : World). v.below) begin) run in
    let made : in_place ended.top ended.below ≡ Some end = done_after ended end n Keep last in
    let high : length ended.below ≡ length (w.top ∷ w.below) = omega (arith, kept_size ended.top ended.below end made, size) in
    let none : again.upper ≡ [] = flat again.upper (w.top ∷ w.below) (ap (λ (l : List Standing). length l) (sym again.is) ∙ high) in
    let below : ended.below ≡ w.top ∷ w.below = again.is ∙ ap (λ (l : List Standing). l ++ w.top ∷ w.below) none in
    let is : end ≡ world ended.top w.below = kept_is ended.top w.top w.below end (subst (λ (l : List Standing). in_place ended.top l ≡ Some end) below made) in
    let left : world ended.top (again.upper ++ w.below) ≡ end = ap (λ (l : List Standing). world ended.top (l ++ w.below)) none ∙ sym is in (
      again.others,
      subst (λ (v : World). Run SupposeStep w i lines again.others v) left
          (subst (λ (top : Standing). Run SupposeStep (world top w.below) i lines again.others (world ended.top (again.upper ++ w.below))) (ap (λ (v : World). v.top) begin) again.run),
      again.same,
    )
