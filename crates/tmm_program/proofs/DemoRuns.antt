-- What becomes of the lines of a generated script.
use Rattle.std.proofs.Common.{◌≡◌, ◌∙◌, ℕ, zero, suc, ◌+◌, ◌-◌, ◌*◌, ◌≤◌, ◌||◌, ◌==◌, nat_lt, Bool, true, false, List, [], ◌∷◌, ◌++◌, length, take, Option, Some, refl, sym, ap, subst, cond, arith}
use Rattle.std.specs.Prelude.{codes, IsTrue, nat_le, All}
use Rattle.std.specs.List.{count_by, list_any, onto_first, slice_get}
use Rattle.std.proofs.lemmas.Bool.{lt-ltb}
use Rattle.std.proofs.lemmas.List.{length-append, take_more}
use Rattle.std.proofs.lemmas.List.Elements.{All-head, All-tail, All-push}
use Rattle.std.proofs.lemmas.List.Sums.{sum_by-cons}
use Rattle.std.proofs.lemmas.Option.{get_or_from_slice_get, slice_get_within}
use Rattle.tmm_model.specs.declared.line.Line.TheVariants.{Silent as Blank}
use Rattle.tmm_model.specs.declared.turn.Turn.{Turn}
use Rattle.tmm_model.specs.declared.turn.Turn.TheVariants.{Silent, Reply as ReplyOf, Memory}
use Rattle.tmm_model.specs.declared.version.Version.{Version}
use Rattle.tmm_model.specs.Generator.{numbered, first_lines, erase_lines, event_lines, events_below, script_of, is_want, is_refused as is_no_or_fault}
use Rattle.tmm_model.specs.Lines.{words, goes_on, is_blank, spaced, IsSilent}
use Rattle.tmm_model.specs.Replies.{Reply, text_of}
use Rattle.tmm_model.specs.Runs.{Run, is_reply, is_refused, is_memory}
use Rattle.tmm_model.specs.Standing.{Standing}
use Rattle.tmm_model.specs.Transcript.{IsReadAs, LineAnswers, Step}
use Rattle.demo_gen.proofs.Blocks.{last_three}
use Rattle.tmm_session.specs.Sessions.{reply_told}
use Rattle.tmm_program.specs.Demo.{replies_told, RunReplied}

-- ---- no line of the script is silent

-- the line begins with a word that is no comment
abbrev pub Speaks : List ℕ → Type 0
Speaks [] = ⊥
Speaks (b ∷ line) = (is_blank b ≡ false) × ((b == 35) ≡ false)

begun_word : (b : ℕ) (ws : List (List ℕ)) → (b == 35) ≡ false → IsSilent (onto_first b ws) → ⊥
begun_word b [] other silent = let never : IsTrue false = subst (λ x. IsTrue x) other silent in cc never
begun_word b (w ∷ ws) other silent = let never : IsTrue false = subst (λ x. IsTrue x) other silent in cc never

first_word : (on : Bool) (b : ℕ) (ws : List (List ℕ)) → (b == 35) ≡ false → IsSilent (cond on (onto_first b ws) ((b ∷ []) ∷ ws)) → ⊥
first_word true b ws other silent = begun_word b ws other silent
first_word false b ws other silent = let never : IsTrue false = subst (λ x. IsTrue x) other silent in cc never

pub speaks_not_silent : (version : Version) (line : List ℕ) → Speaks line → IsReadAs version line Blank → ⊥
unfolding words
speaks_not_silent version [] speaks read = absurd speaks
speaks_not_silent version (b ∷ line) speaks read =
    first_word (goes_on line) b (words line) speaks.1
    (subst (λ blank. IsSilent (cond blank (words line) (cond (goes_on line) (onto_first b (words line)) ((b ∷ []) ∷ words line)))) speaks.0 read.reads)

abbrev AllSpeak : List (List ℕ) → Type 0
AllSpeak [] = Unit {0}
AllSpeak (line ∷ lines) = Speaks line × AllSpeak lines

AllSpeak-append : (lines more : List (List ℕ)) → AllSpeak lines → AllSpeak more → AllSpeak (lines ++ more)
AllSpeak-append [] more these those = those
AllSpeak-append (line ∷ lines) more these those = (these.0, AllSpeak-append lines more these.1 those)

AllSpeak-at : (lines : List (List ℕ)) (i : ℕ) (line : List ℕ) → AllSpeak lines → slice_get lines i ≡ Some line → Speaks line
AllSpeak-at [] i line speak at = absurd (cc at)
AllSpeak-at (first ∷ lines) zero line speak at = let e : first ≡ line = cc at in subst Speaks e speak.0
AllSpeak-at (first ∷ lines) (suc i) line speak at = AllSpeak-at lines i line speak.1 at

erase_lines-speak : (b : Bool) (j : ℕ) → AllSpeak (elim b [ true ↦ spaced (codes "erase" ∷ numbered (codes "e") j ∷ []) ∷ [] | false ↦ [] ])
erase_lines-speak true j = ((refl, refl), tt)
erase_lines-speak false j = tt

event_lines-speak : (j : ℕ) → AllSpeak (event_lines j)
event_lines-speak j =
    AllSpeak-append (erase_lines j) (last_three j) (erase_lines-speak (nat_le 60 j) (j - 60)) ((refl, refl), ((refl, refl), ((refl, refl), tt)))

events_below-speak : (n : ℕ) → AllSpeak (events_below n)
events_below-speak zero = tt
events_below-speak (suc n) = AllSpeak-append (events_below n) (event_lines n) (events_below-speak n) (event_lines-speak n)

script-speaks : (n : ℕ) → AllSpeak (script_of n)
script-speaks n =
    AllSpeak-append first_lines (events_below n ++ codes "size" ∷ []) ((refl, refl), ((refl, refl), ((refl, refl), ((refl, refl), ((refl, refl), ((refl, refl), ((refl, refl), ((refl, refl), tt))))))))
    (AllSpeak-append (events_below n) (codes "size" ∷ []) (events_below-speak n) ((refl, refl), tt))

pub line_speaks : (n i : ℕ) (line : List ℕ) → slice_get (script_of n) i ≡ Some line → Speaks line
line_speaks n i line at = AllSpeak-at (script_of n) i line (script-speaks n) at

-- ---- the script is short

erase_lines-length : (b : Bool) (line : List ℕ) → length {A = List ℕ} (elim b [ true ↦ line ∷ [] | false ↦ [] ]) ≤ 1
erase_lines-length true line = omega arith
erase_lines-length false line = omega arith

event_lines-length : (j : ℕ) → length (event_lines j) ≤ 4
event_lines-length j =
    let e : length (erase_lines j) ≤ 1 = erase_lines-length (nat_le 60 j) (spaced (codes "erase" ∷ numbered (codes "e") (j - 60) ∷ [])) in
    omega (arith, e, length-append (erase_lines j) (last_three j))

events_below-length : (n : ℕ) → length (events_below n) ≤ 4 * n
events_below-length zero = omega arith
events_below-length (suc n) = omega (arith, events_below-length n, event_lines-length n, length-append (events_below n) (event_lines n))

pub script-length : (n : ℕ) → n ≤ 1000 → length (script_of n) ≤ 4009
script-length n few = omega (arith, events_below-length n, length-append (events_below n) (codes "size" ∷ []))

-- the lines up to and with this one
pub one_line_more : (n i : ℕ) (line : List ℕ) → slice_get (script_of n) i ≡ Some line → take (i + 1) (script_of n) ≡ take i (script_of n) ++ line ∷ []
one_line_more n i line at =
    take_more (script_of n) i [] (slice_get_within (script_of n) i line at)
    ∙ ap (λ l. take i (script_of n) ++ l ∷ []) (get_or_from_slice_get (script_of n) i line [] at)

-- ---- runs with replies

-- a step from the same list, of a line of the same number, tells the same reply
step_moved : (now old : Standing) (j k : ℕ) (line : List ℕ) (turn : Turn) (new : Standing) → now ≡ old → j ≡ k → (step : Step now j line turn new)
    → (moved : Step old k line turn new) × (reply_told old k line turn new moved ≡ reply_told now j line turn new step)
step_moved now old j k line Silent new is same step = (subst (λ (s : Standing). IsReadAs s.version line Blank × (new ≡ s)) is step, refl)
step_moved now old j k line Memory new is same step = (subst (λ (s : Standing). (IsReadAs s.version line Blank → ⊥) × (new ≡ s)) is step, refl)
step_moved now old j k line (ReplyOf bytes refused) new is same step = (
  (
    step.0,
    subst (λ (s : Standing). LineAnswers s line step.0 new) is step.1,
    subst (λ (n : ℕ). bytes.items ≡ text_of n step.0) same step.2,
    step.3,
  ),
  refl,
)

-- a run with one step more tells one reply more
run_with : (old : Standing) (k : ℕ) (lines : List (List ℕ)) (turns : List Turn) (mid : Standing) (run : Run Step old k lines turns mid)
    (line : List ℕ) (turn : Turn) (new : Standing) (step : Step mid (k + length lines + 1) line turn new)
    → (longer : Run Step old k (lines ++ line ∷ []) (turns ++ turn ∷ []) new)
    × (replies_told old k (lines ++ line ∷ []) (turns ++ turn ∷ []) new longer
    ≡ replies_told old k lines turns mid run ++ reply_told mid (k + length lines + 1) line turn new step ∷ [])
run_with old k [] [] mid run line turn new step =
    let e : k + length {A = List ℕ} [] + 1 ≡ k + 1 = omega arith in
    let moved = step_moved mid old (k + length {A = List ℕ} [] + 1) (k + 1) line turn new run e step in
    ((new, moved.0, refl), ap (λ r. r ∷ []) moved.1)
run_with old k (first ∷ lines) (earlier ∷ turns) mid run line turn new step =
    let e : k + length (first ∷ lines) + 1 ≡ (k + 1) + length lines + 1 = omega arith in
    let moved = step_moved mid mid (k + length (first ∷ lines) + 1) ((k + 1) + length lines + 1) line turn new refl e step in
    let rest = run_with run.0 (k + 1) lines turns mid run.2 line turn new moved.0 in (
      (run.0, run.1, rest.0),
      ap (λ l. reply_told old (k + 1) first earlier run.0 run.1 ∷ l) (rest.1 ∙ ap (λ r. replies_told run.0 (k + 1) lines turns mid run.2 ++ r ∷ []) moved.1),
    )
run_with old k [] (earlier ∷ turns) mid run line turn new step = absurd run
run_with old k (first ∷ lines) [] mid run line turn new step = absurd run

pub RunReplied-push : (start : Standing) (lines : List (List ℕ)) (turns : List Turn) (replies : List (Option Reply)) (mid : Standing)
    (k : ℕ) (line : List ℕ) (turn : Turn) (new : Standing) → RunReplied start lines turns replies mid → k ≡ length lines + 1 → is_reply turn ≡ true
    → (step : Step mid k line turn new)
    → RunReplied start (lines ++ line ∷ []) (turns ++ turn ∷ []) (replies ++ reply_told mid k line turn new step ∷ []) new
RunReplied-push start lines turns replies mid k line turn new replied number has_reply step =
    let e : k ≡ 0 + length lines + 1 = omega (arith, number) in
    let moved = step_moved mid mid k (0 + length lines + 1) line turn new refl e step in
    let longer = run_with start 0 lines turns mid replied.run line turn new moved.0 in record {
      run = longer.0;
      each = All-push (λ t. is_reply t ≡ true) turns turn replied.each has_reply;
      replies_are = ap (λ l. l ++ reply_told mid k line turn new step ∷ []) replied.replies_are
          ∙ ap (λ r. replies_told start 0 lines turns mid replied.run ++ r ∷ []) (sym moved.1) ∙ sym longer.1;
    }

-- what a reply counts for is what its turn tells
counts_memory : (old : Standing) (k : ℕ) (line : List ℕ) (turn : Turn) (new : Standing) (step : Step old k line turn new) → is_reply turn ≡ true
    → is_memory turn ≡ is_want (reply_told old k line turn new step)
counts_memory old k line Silent new step has_reply = absurd (cc has_reply)
counts_memory old k line Memory new step has_reply = refl
counts_memory old k line (ReplyOf bytes refused) new step has_reply = refl

counts_refused : (old : Standing) (k : ℕ) (line : List ℕ) (turn : Turn) (new : Standing) (step : Step old k line turn new) → is_reply turn ≡ true
    → is_refused turn ≡ is_no_or_fault (reply_told old k line turn new step)
counts_refused old k line Silent new step has_reply = absurd (cc has_reply)
counts_refused old k line Memory new step has_reply = refl
counts_refused old k line (ReplyOf bytes refused) new step has_reply = step.3

above_zero : (n : ℕ) → true ≡ nat_lt 0 (suc n)
above_zero n = sym (lt-ltb 0 (suc n) (omega arith))

some_counted : (any one : Bool) (rest : Bool) (n m : ℕ) → any ≡ one → rest ≡ nat_lt 0 n → m ≡ cond one 1 0 + n → (any || rest) ≡ nat_lt 0 m
some_counted true true rest n m same counted more = let e : suc n ≡ m = omega (arith, more) in subst (λ k. true ≡ nat_lt 0 k) e (above_zero n)
some_counted false false rest n m same counted more = counted ∙ ap (nat_lt 0) (let e : n ≡ m = omega (arith, more) in e)
some_counted true false rest n m same counted more = absurd (cc same)
some_counted false true rest n m same counted more = absurd (cc same)

-- there are as many replies as lines, and they are counted as the turns tell
pub record AreCounted (lines : List (List ℕ)) (turns : List Turn) (replies : List (Option Reply)) : Type 0 where
  pub long : length replies ≡ length lines
  pub memory : list_any is_memory turns ≡ nat_lt 0 (count_by is_want replies)
  pub refused : list_any is_refused turns ≡ nat_lt 0 (count_by is_no_or_fault replies)

run_counted : (old : Standing) (k : ℕ) (lines : List (List ℕ)) (turns : List Turn) (new : Standing) (run : Run Step old k lines turns new)
    → All (λ turn. is_reply turn ≡ true) turns → AreCounted lines turns (replies_told old k lines turns new run)
run_counted old k [] [] new run each = record { long = refl; memory = refl; refused = refl }
run_counted old k (line ∷ lines) (turn ∷ turns) new run each =
    let reply = reply_told old (k + 1) line turn run.0 run.1 in
    let replies = replies_told run.0 (k + 1) lines turns new run.2 in
    let has_reply : is_reply turn ≡ true = All-head (λ t. is_reply t ≡ true) turn turns each in
    let rest = run_counted run.0 (k + 1) lines turns new run.2 (All-tail (λ t. is_reply t ≡ true) turn turns each) in
    record {
      long = omega (arith, rest.long);
      memory = some_counted (is_memory turn) (is_want reply) (list_any is_memory turns) (count_by is_want replies) (count_by is_want (reply ∷ replies))
          (counts_memory old (k + 1) line turn run.0 run.1 has_reply) rest.memory (sum_by-cons (λ r. cond (is_want r) 1 0) reply replies);
      refused = some_counted (is_refused turn) (is_no_or_fault reply) (list_any is_refused turns) (count_by is_no_or_fault replies) (count_by is_no_or_fault (reply ∷ replies))
          (counts_refused old (k + 1) line turn run.0 run.1 has_reply) rest.refused (sum_by-cons (λ r. cond (is_no_or_fault r) 1 0) reply replies);
    }
run_counted old k [] (turn ∷ turns) new run each = absurd run
run_counted old k (line ∷ lines) [] new run each = absurd run

pub RunReplied-counted : (start : Standing) (lines : List (List ℕ)) (turns : List Turn) (replies : List (Option Reply)) (end : Standing)
    → RunReplied start lines turns replies end → AreCounted lines turns replies
RunReplied-counted start lines turns replies end replied =
    subst (λ (l : List (Option Reply)). AreCounted lines turns l) (sym replied.replies_are) (run_counted start 0 lines turns end replied.run replied.each)
