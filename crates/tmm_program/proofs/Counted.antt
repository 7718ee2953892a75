-- What a summary counts of replies, reply by reply.
use Rattle.std.proofs.Common.{◌≡◌, ◌∙◌, inl, inr, take, ℕ, ◌+◌, ◌≤◌, Bool, true, false, List, [], ◌∷◌, ◌++◌, length, Option, Some, None, refl, sym, ap, subst, cond, arith, if◌then◌else◌, append_assoc, nat_lt}
use Rattle.std.specs.List.{count_by, list_any, slice_get}
use Rattle.std.proofs.lemmas.List.{length-append, take_all, length-take-le}
use Rattle.std.proofs.lemmas.List.Elements.{All-nil}
use Rattle.std.proofs.lemmas.List.Sums.{count_by-le-length, sum_by_push}
use Rattle.std.proofs.lemmas.Option.{slice_get_cases}
use Rattle.tmm_model.specs.declared.answer.Answer.TheVariants.{Yes, No, Unordered}
use Rattle.tmm_model.specs.declared.turn.Turn.{Turn}
use Rattle.tmm_model.specs.Generator.{script_of, is_ok, is_yes, is_no, is_refused, is_want, size_word, last_word, summary}
use Rattle.tmm_model.specs.Lines.{spaced, behind_spaces}
use Rattle.tmm_model.specs.Replies.{Reply, Accepted, Refused, BoundsAre, PathIs, Answered, Reasons, BrokenAre, Believed, DumpIs, AuditYes, SizeIs}
use Rattle.tmm_model.specs.Runs.{is_reply, is_memory, is_refused as is_refused_turn}
use Rattle.tmm_model.specs.Standing.{Standing}
use Rattle.tmm_program.specs.declared.demo.Counts.{Counts}
use Rattle.tmm_drive.specs.declared.status.Status.{Status}
use Rattle.tmm_drive.specs.declared.status.Status.TheVariants.{Clean, SomeRefused, SomeMemory}
use Rattle.tmm_session.specs.declared.told.Told.{Told}
use Rattle.tmm_session.specs.declared.told.Told.TheVariants.{Silent, Reply as ReplyOf, Memory}
use Rattle.tmm_program.specs.Counts.{number_word, AreCounts, HaveRoom, with_kind, counted, counts_text}
use Rattle.tmm_program.specs.Demo.{RunReplied, Summarizes, DemoEnds}
use Rattle.tmm_session.specs.Kinds.{reply_kind, turn_of}
use Rattle.tmm_session.specs.Sessions.{TellsLine, reply_told}
use Rattle.tmm_drive.specs.Statuses.{status_of}
use Rattle.tmm_program.proofs.DemoRuns.{Speaks, speaks_not_silent, RunReplied-push, RunReplied-counted, line_speaks, one_line_more}
use Rattle.tmm_drive.proofs.Steps.{told_as_three}

last_word-push : (replies : List (Option Reply)) (reply : Option Reply) → last_word (replies ++ reply ∷ []) ≡ size_word reply
last_word-push [] reply = refl
last_word-push (first ∷ []) reply = refl
last_word-push (first ∷ second ∷ replies) reply = last_word-push (second ∷ replies) reply

-- one more, where it counts
abbrev bumped : Bool → ℕ → ℕ
bumped true n = n + 1
bumped false n = n

bumped-is : (b : Bool) (n : ℕ) → bumped b n ≡ n + cond b 1 0
bumped-is true n = refl
bumped-is false n = omega arith

-- the counts after one more reply, by what it counts for
abbrev plus : Counts → Option Reply → Option ℕ → Counts
plus c r told = record {
  lines = c.lines + 1;
  ok = bumped (is_ok r) c.ok;
  yes = bumped (is_yes r) c.yes;
  no = bumped (is_no r) c.no;
  refused = bumped (is_refused r) c.refused;
  memory = bumped (is_want r) c.memory;
  size = told;
}

one_more : (test : Option Reply → Bool) (n : ℕ) (replies : List (Option Reply)) (reply : Option Reply) → n ≡ count_by test replies → bumped (test reply) n ≡ count_by test (replies ++ reply ∷ [])
one_more test n replies reply is = bumped-is (test reply) n ∙ ap (λ m. m + cond (test reply) 1 0) is ∙ sym (sum_by_push (λ r. cond (test r) 1 0) replies reply)

AreCounts-plus : (c d : Counts) (replies : List (Option Reply)) (reply : Option Reply) (told : Option ℕ) → AreCounts c replies → d ≡ plus c reply told → number_word told ≡ size_word reply
    → AreCounts d (replies ++ reply ∷ [])
AreCounts-plus c d replies reply told are is same = subst (λ (e : Counts). AreCounts e (replies ++ reply ∷ [])) (sym is) (record {
  lines = omega (arith, are.lines, length-append replies (reply ∷ []));
  ok = one_more is_ok c.ok replies reply are.ok;
  yes = one_more is_yes c.yes replies reply are.yes;
  no = one_more is_no c.no replies reply are.no;
  refused = one_more is_refused c.refused replies reply are.refused;
  memory = one_more is_want c.memory replies reply are.memory;
  size = same ∙ sym (last_word-push replies reply);
})

AreCounts-kind : (c : Counts) (replies : List (Option Reply)) (reply : Reply) → AreCounts c replies → AreCounts (with_kind c (reply_kind reply)) (replies ++ Some reply ∷ [])
AreCounts-kind c replies (Accepted changes) are = AreCounts-plus c (with_kind c (reply_kind (Accepted changes))) replies (Some (Accepted changes)) None are refl refl
AreCounts-kind c replies (Refused refusal) are = AreCounts-plus c (with_kind c (reply_kind (Refused refusal))) replies (Some (Refused refusal)) None are refl refl
AreCounts-kind c replies (BoundsAre lo hi) are = AreCounts-plus c (with_kind c (reply_kind (BoundsAre lo hi))) replies (Some (BoundsAre lo hi)) None are refl refl
AreCounts-kind c replies (PathIs far steps) are = AreCounts-plus c (with_kind c (reply_kind (PathIs far steps))) replies (Some (PathIs far steps)) None are refl refl
AreCounts-kind c replies (Answered (Yes by)) are = AreCounts-plus c (with_kind c (reply_kind (Answered (Yes by)))) replies (Some (Answered (Yes by))) None are refl refl
AreCounts-kind c replies (Answered (No blames more)) are = AreCounts-plus c (with_kind c (reply_kind (Answered (No blames more)))) replies (Some (Answered (No blames more))) None are refl refl
AreCounts-kind c replies (Answered Unordered) are = AreCounts-plus c (with_kind c (reply_kind (Answered Unordered))) replies (Some (Answered Unordered)) None are refl refl
AreCounts-kind c replies (Reasons lines) are = AreCounts-plus c (with_kind c (reply_kind (Reasons lines))) replies (Some (Reasons lines)) None are refl refl
AreCounts-kind c replies (BrokenAre broken) are = AreCounts-plus c (with_kind c (reply_kind (BrokenAre broken))) replies (Some (BrokenAre broken)) None are refl refl
AreCounts-kind c replies (Believed found) are = AreCounts-plus c (with_kind c (reply_kind (Believed found))) replies (Some (Believed found)) None are refl refl
AreCounts-kind c replies (DumpIs version horizon lines) are = AreCounts-plus c (with_kind c (reply_kind (DumpIs version horizon lines))) replies (Some (DumpIs version horizon lines)) None are refl refl
AreCounts-kind c replies AuditYes are = AreCounts-plus c (with_kind c (reply_kind AuditYes)) replies (Some AuditYes) None are refl refl
AreCounts-kind c replies (SizeIs n) are = AreCounts-plus c (with_kind c (reply_kind (SizeIs n))) replies (Some (SizeIs n)) (Some n) are refl refl

-- a line that is not silent has a reply, by which it is counted
has_reply : (old new : Standing) (k : ℕ) (line : List ℕ) (t : Told) → Speaks line → TellsLine old k line t new → is_reply (turn_of t) ≡ true
has_reply old new k line Silent speaks told = absurd (speaks_not_silent old.version line speaks told.0.0)
has_reply old new k line Memory speaks told = refl
has_reply old new k line (ReplyOf bytes kind) speaks told = refl

counted_reply : (old new : Standing) (k : ℕ) (line : List ℕ) (t : Told) (c : Counts) (replies : List (Option Reply)) → Speaks line → (told : TellsLine old k line t new)
    → AreCounts c replies → AreCounts (counted c t) (replies ++ reply_told old k line (turn_of t) new told.0 ∷ [])
counted_reply old new k line Silent c replies speaks told are = absurd (speaks_not_silent old.version line speaks told.0.0)
counted_reply old new k line Memory c replies speaks told are = AreCounts-plus c (counted c Memory) replies None None are refl refl
counted_reply old new k line (ReplyOf bytes kind) c replies speaks told are =
    subst (λ k. AreCounts (with_kind c k) (replies ++ Some told.0.0 ∷ [])) (sym told.1) (AreCounts-kind c replies told.0.0 are)

AreCounts-room : (c : Counts) (replies : List (Option Reply)) → AreCounts c replies → length replies ≤ 4009 → HaveRoom c
AreCounts-room c replies are few = record {
  lines = omega (arith, are.lines);
  ok = omega (arith, are.ok, count_by-le-length is_ok replies);
  yes = omega (arith, are.yes, count_by-le-length is_yes replies);
  no = omega (arith, are.no, count_by-le-length is_no replies);
  refused = omega (arith, are.refused, count_by-le-length is_refused replies);
  memory = omega (arith, are.memory, count_by-le-length is_want replies);
}

-- The first lines of a script have run, and their replies are counted.
abbrev pub HasRun : Standing → List (List ℕ) → Counts → Standing → Type 0
HasRun start lines c now = (turns : List Turn) × (replies : List (Option Reply)) × RunReplied start lines turns replies now × AreCounts c replies

-- one line more
pub HasRun-next : (start now next : Standing) (lines : List (List ℕ)) (i : ℕ) (line : List ℕ) (t : Told) (c : Counts) → length lines ≡ i → Speaks line → HasRun start lines c now
    → TellsLine now (i + 1) line t next → HasRun start (lines ++ line ∷ []) (counted c t) next
HasRun-next start now next lines i line t c long speaks has told =
    let number : i + 1 ≡ length lines + 1 = omega (arith, long) in (
      has.0 ++ turn_of t ∷ [],
      has.1 ++ reply_told now (i + 1) line (turn_of t) next told.0 ∷ [],
      RunReplied-push start lines has.0 has.1 now (i + 1) line (turn_of t) next has.2 number (has_reply now next (i + 1) line t speaks told) told.0,
      counted_reply now next (i + 1) line t c has.1 speaks told has.3,
    )

-- the next line of the generated script
pub HasRun-line : (start now next : Standing) (n i k : ℕ) (line bytes : List ℕ) (t : Told) (c d : Counts) → slice_get (script_of n) i ≡ Some line → i ≤ length (script_of n) → k ≡ i → bytes ≡ line
    → d ≡ counted c t → HasRun start (take i (script_of n)) c now → TellsLine now (k + 1) bytes t next → HasRun start (take (i + 1) (script_of n)) d next
HasRun-line start now next n i k line bytes t c d at within number same counts has told =
    let told_at : TellsLine now (i + 1) line t next =
    subst (λ (j : ℕ). TellsLine now (j + 1) line t next) number (subst (λ (l : List ℕ). TellsLine now (k + 1) l t next) same told) in
    let more : HasRun start (take i (script_of n) ++ line ∷ []) (counted c t) next =
    HasRun-next start now next (take i (script_of n)) i line t c (length-take-le i (script_of n) within) (line_speaks n i line at) has told_at in
    subst (λ (e : Counts). HasRun start (take (i + 1) (script_of n)) e next) (sym counts)
    (subst (λ (lines : List (List ℕ)). HasRun start lines (counted c t) next) (sym (one_line_more n i line at)) more)

pub HasRun-room : (start now : Standing) (lines : List (List ℕ)) (c : Counts) → HasRun start lines c now → length lines ≤ 4009 → HaveRoom c
HasRun-room start now lines c has few = AreCounts-room c has.1 has.3 (omega (arith, (RunReplied-counted start lines has.0 has.1 now has.2).long))

pub HasRun-none : (start : Standing) (c : Counts) → AreCounts c [] → HasRun start [] c start
HasRun-none start c are = ([], [], record { run = refl; each = All-nil (λ turn. is_reply turn ≡ true); replies_are = refl }, are)

-- the script has no more lines
pub none_left : (script : List (List ℕ)) (i : ℕ) → slice_get script i ≡ None → i ≤ length script → take i script ≡ script
none_left script i none within = elim (slice_get_cases script i).1 [
  | inl some ↦ absurd (let e : Some some.0 ≡ None = sym some.2 ∙ none in cc e)
  | inr past ↦ take_all i script past.0
]

-- the line of these counts is the summary
pub summary_of_counts : (n : ℕ) (c : Counts) (replies : List (Option Reply)) → AreCounts c replies → counts_text n c ≡ summary n replies
summary_of_counts n c replies are = cc (are.lines, are.ok, are.yes, are.no, are.refused, are.memory, are.size)

-- ---- the line, piece by piece

-- words behind spaces, and then more bytes
abbrev pub run_on : List (List ℕ) → List ℕ → List ℕ
run_on [] end = end
run_on (w ∷ ws) end = 32 ∷ w ++ run_on ws end

run_on-spaces : (ws : List (List ℕ)) (end : List ℕ) → behind_spaces ws ++ end ≡ run_on ws end
run_on-spaces [] end = refl
run_on-spaces (w ∷ ws) end = ap (λ l. 32 ∷ l) (append_assoc w (behind_spaces ws) end ∙ ap (λ l. w ++ l) (run_on-spaces ws end))

pub spaced_line : (w : List ℕ) (ws : List (List ℕ)) (end : List ℕ) → spaced (w ∷ ws) ++ end ≡ w ++ run_on ws end
spaced_line w ws end = append_assoc w (behind_spaces ws) end ∙ ap (λ l. w ++ l) (run_on-spaces ws end)

-- a piece is put at the end, and then more bytes
pub put_on : (text old front digits : List ℕ) (more : List ℕ) → text ≡ old ++ front ++ digits → text ++ more ≡ old ++ (front ++ (digits ++ more))
put_on text old front digits more is = ap (λ l. l ++ more) is ∙ append_assoc (old ++ front) digits more ∙ append_assoc old front (digits ++ more)

-- their status is that of the run
pub status_of_counts : (start : Standing) (lines : List (List ℕ)) (turns : List Turn) (replies : List (Option Reply)) (end : Standing) (c : Counts)
    → RunReplied start lines turns replies end → AreCounts c replies
    → (if nat_lt 0 c.memory then SomeMemory else (if nat_lt 0 c.refused then SomeRefused else Clean)) ≡ status_of turns
status_of_counts start lines turns replies end c run are =
    let is = RunReplied-counted start lines turns replies end run in
    let memory : nat_lt 0 c.memory ≡ list_any is_memory turns = ap (nat_lt 0) are.memory ∙ sym is.memory in
    let refused : nat_lt 0 c.refused ≡ list_any is_refused_turn turns = ap (nat_lt 0) are.refused ∙ sym is.refused in
    ap (λ b. if b then SomeMemory else (if nat_lt 0 c.refused then SomeRefused else Clean)) memory
    ∙ ap (λ b. if list_any is_memory turns then SomeMemory else (if b then SomeRefused else Clean)) refused

-- the line and the status of the counts are what the words may leave
pub demo_ends : (start : Standing) (n : ℕ) (turns : List Turn) (replies : List (Option Reply)) (end : Standing) (c : Counts) (line : List ℕ) (status : Status)
    → RunReplied start (script_of n) turns replies end → AreCounts c replies → line ≡ counts_text n c
    → status ≡ (if nat_lt 0 c.memory then SomeMemory else (if nat_lt 0 c.refused then SomeRefused else Clean))
    → Summarizes start n line status × DemoEnds start n line status
demo_ends start n turns replies end c line status run are is told =
    let told_is : status ≡ status_of turns = told ∙ status_of_counts start (script_of n) turns replies end c run are in
    let of : Summarizes start n line status = record {
      turns = turns;
      replies = replies;
      end = end;
      replied = run;
      line_is = is ∙ summary_of_counts n c replies are;
      status_is = told_is;
    } in
    let P : Status → Type 0 = λ s. Summarizes start n line s → DemoEnds start n line s in
    (of, subst P (sym told_is) (told_as_three P (λ h. h) (λ h. h) (λ h. h) (list_any is_memory turns) (list_any is_refused_turn turns)) of)
