-- A script's lines and replies tell its world.
use Rattle.std.proofs.Common.{◌≡◌, ℕ, ◌+◌, ◌-◌, ◌≤◌, Bool, true, false, cond, List, [], ◌∷◌, ◌++◌, length, length-append, append_assoc, drop, Option, Some, None, refl, sym, ap, ◌∙◌, subst, arith}
use Rattle.std.specs.Prelude.{All, not, ◌&&◌, ◌≢◌, filter, option_map, reverse}
use Rattle.std.specs.List.{after_last, filter_map, suffix_len, prefix_len}
use Rattle.std.proofs.lemmas.List.{append-nil, drop-append-le, drop_all, reverse-append}
use Rattle.std.proofs.lemmas.List.Elements.{All-nil, filter_map-append}
use Rattle.std.proofs.lemmas.List.Sums.{suffix_len-le-length}
use Rattle.tmm_grammar.specs.Reading.{line_of}
use Rattle.tmm_grammar.proofs.LineForms.{line_of-complete, line_of-sound}
use Rattle.tmm_model.specs.declared.line.Line.{Line}
use Rattle.tmm_model.specs.declared.line.Line.TheVariants.{Silent as Blank, Change, Question}
use Rattle.tmm_model.specs.declared.mode.Mode.TheVariants.{Agents as Sharing}
use Rattle.tmm_model.specs.declared.mode.ModeCause.{ModeCause}
use Rattle.tmm_model.specs.declared.mode.ModeLine.{ModeLine}
use Rattle.tmm_model.specs.declared.mode.ModeLine.TheVariants.{Suppose, Keep, Drop, Hold, Commit, Discard, Repairs, Timeline}
use Rattle.tmm_model.specs.declared.premise.Edit.{Edit}
use Rattle.tmm_model.specs.declared.turn.Turn.{Turn}
use Rattle.tmm_model.specs.declared.turn.Turn.TheVariants.{Silent, Reply, Memory}
use Rattle.tmm_model.specs.declared.version.Version.TheVariants.{Two}
use Rattle.tmm_model.specs.Edits.{next_list}
use Rattle.tmm_model.specs.Lines.{Reads, words}
use Rattle.tmm_model.specs.Points.{same_name}
use Rattle.tmm_model.specs.Runs.{Run, is_memory}
use Rattle.tmm_model.specs.Standing.{Standing}
use Rattle.walk_theory.proofs.Points.{same_name-is, same_name-self}
use Rattle.mode_session.specs.ModeSteps.{own_line, StepAs}
use Rattle.agents.specs.declared.batches.Held.{Held}
use Rattle.agents.specs.Batches.{held_by, with_held, without, hold_cause}
use Rattle.agents.specs.Commits.{list_after}
use Rattle.agents.specs.Sharing.{SharingOwn, SharingOther, SharingStep, HoldAnswers, Holds, CommitAnswers, holding, discarded, committed, for_form, for_edit, for_all, for_none, for_change, for_other}
use Rattle.agents.specs.Histories.{Answered, answered, said_by, is_done, edit_in, edit_said, held_as, ends_as, batch_after, made_as, made_behind, list_of}
use Rattle.agents.specs.Interleavings.{IsWorldAfter, LinesTellTheWorld}
use Rattle.agents.specs.Worlds.{Batch, World, first_world}
use Rattle.agents.proofs.HeldBy.{HasEdit, batches_of, held_by-with, held_by-with_other, held_by-without, held_by-without_other, some-with, some-without, once-held, once-without}

-- ---- one line more

suffix_len-push : {X : Type 0} (p : X → Bool) (xs : List X) (x : X) → suffix_len p (xs ++ x ∷ []) ≡ cond (p x) (1 + suffix_len p xs) 0
suffix_len-push {X} p xs x = ap (λ (ys : List X). prefix_len p ys) (reverse-append xs (x ∷ []))

module _ {X : Type 0} (p : X → Bool) where
  -- what stands behind the last that passes, with one more behind
  pub after_last-push : (xs : List X) (x : X) → after_last p (xs ++ x ∷ []) ≡ cond (p x) [] (after_last p xs ++ x ∷ [])
  after_last-push xs x = by (p x) refl where
    by : (v : Bool) → p x ≡ v → after_last p (xs ++ x ∷ []) ≡ cond v [] (after_last p xs ++ x ∷ [])
    by true passes =
        let none : suffix_len (λ y. not (p y)) (xs ++ x ∷ []) ≡ 0 = suffix_len-push (λ y. not (p y)) xs x ∙ ap (λ (v : Bool). cond (not v) (1 + suffix_len (λ y. not (p y)) xs) 0) passes in
        drop_all (length (xs ++ x ∷ []) - suffix_len (λ y. not (p y)) (xs ++ x ∷ [])) (xs ++ x ∷ []) (omega (arith, none))
    by false fails =
        let s : ℕ = suffix_len (λ y. not (p y)) xs in
        let more : suffix_len (λ y. not (p y)) (xs ++ x ∷ []) ≡ 1 + s = suffix_len-push (λ y. not (p y)) xs x ∙ ap (λ (v : Bool). cond (not v) (1 + s) 0) fails in
        let from : length (xs ++ x ∷ []) - suffix_len (λ y. not (p y)) (xs ++ x ∷ []) ≡ length xs - s = omega (arith, more, length-append xs (x ∷ [])) in
        ap (λ (n : ℕ). drop n (xs ++ x ∷ [])) from
        ∙ drop-append-le (length xs - s) xs (x ∷ []) (omega arith)

-- ---- the edits that lines hold

-- the elements of an option
abbrev elements : Option Held → List Held
elements None = []
elements (Some h) = h ∷ []

filter_map-one : (f : Answered → Option Held) (a : Answered) → filter_map f (a ∷ []) ≡ elements (f a)
filter_map-one f a = by (f a) where
  by : (o : Option Held) → filter_map (λ (b : Answered). o) (a ∷ []) ≡ elements o
  by None = refl
  by (Some h) = refl

-- the batch after one line more
pub batch_after-push : (lines : List Answered) (a : Answered) (agent : List ℕ)
    → batch_after (lines ++ a ∷ []) agent ≡ cond (ends_as agent a (said_by a)) [] (batch_after lines agent ++ elements (held_as agent a (said_by a)))
batch_after-push lines a agent =
    ap (filter_map (λ b. held_as agent b (said_by b))) (after_last-push (λ b. ends_as agent b (said_by b)) lines a)
    ∙ by (ends_as agent a (said_by a)) where
      earlier : List Answered
      earlier = after_last (λ b. ends_as agent b (said_by b)) lines

      by : (v : Bool) → filter_map (λ b. held_as agent b (said_by b)) (cond v [] (earlier ++ a ∷ [])) ≡ cond v [] (filter_map (λ b. held_as agent b (said_by b)) earlier ++ elements (held_as agent a (said_by a)))
      by true = refl
      by false =
          filter_map-append (λ b. held_as agent b (said_by b)) earlier (a ∷ [])
          ∙ ap (λ (hs : List Held). filter_map (λ b. held_as agent b (said_by b)) earlier ++ hs) (filter_map-one (λ b. held_as agent b (said_by b)) a)

-- the edits that are made, with one line more behind these
made_behind-push : (before lines : List Answered) (a : Answered) → made_behind before (lines ++ a ∷ []) ≡ made_behind before lines ++ made_as (before ++ lines) a (said_by a)
made_behind-push before [] a = append-nil (made_as before a (said_by a)) ∙ ap (λ (ls : List Answered). made_as ls a (said_by a)) (sym (append-nil before))
made_behind-push before (b ∷ lines) a =
    ap (λ (hs : List Held). made_as before b (said_by b) ++ hs) (made_behind-push (before ++ b ∷ []) lines a)
    ∙ ap (λ (ls : List Answered). made_as before b (said_by b) ++ (made_behind (before ++ b ∷ []) lines ++ made_as ls a (said_by a))) (append_assoc before (b ∷ []) lines)
    ∙ sym (append_assoc (made_as before b (said_by b)) (made_behind (before ++ b ∷ []) lines) (made_as (before ++ b ∷ lines) a (said_by a)))

pub list_after-append : (list : Standing) (es fs : List Held) → list_after list (es ++ fs) ≡ list_after (list_after list es) fs
list_after-append list [] fs = refl
list_after-append list (e ∷ es) fs = list_after-append (next_list list e.edit) es fs

-- the list after one line more
list_of-push : (lines : List Answered) (a : Answered) → list_of (lines ++ a ∷ []) ≡ list_after (list_of lines) (made_as lines a (said_by a))
list_of-push lines a =
    ap (λ (hs : List Held). list_after first_world.list hs) (made_behind-push [] lines a)
    ∙ list_after-append first_world.list (made_behind [] lines) (made_as lines a (said_by a))

-- ---- what a line leaves

-- the edits that an agent holds after a line, where it held these
abbrev held_after : Bool → List Held → Option Held → List Held
held_after ends held o = cond ends [] (held ++ elements o)

-- What a line leaves, by what it says and its reply.
record Leaves (lines : List Answered) (old : World) (a : Answered) (said : Option ModeLine) (new : World) : Type 0 where
  pub list : new.list ≡ list_after old.list (made_as lines a said)
  pub batches : (agent : List ℕ) → held_by new.batches agent ≡ held_after (ends_as agent a said) (held_by old.batches agent) (held_as agent a said)
  pub some : All HasEdit new.batches
  pub once : (agent : List ℕ) → batches_of new.batches agent ≤ 1

-- ---- what lines say of what they do not do

and_no : (v : Bool) → (v && false) ≡ false
and_no true = refl
and_no false = refl

-- a line without memory, or refused, makes nothing and holds nothing
makes_nothing : (lines : List Answered) (a : Answered) (said : Option ModeLine) → is_done a.turn ≡ false → made_as lines a said ≡ []
makes_nothing lines a (Some (Commit agent)) not_done = ap (λ (v : Bool). cond v (batch_after lines agent) []) not_done
makes_nothing lines a (Some (Hold agent rest)) not_done = refl
makes_nothing lines a (Some (Discard agent)) not_done = refl
makes_nothing lines a (Some Suppose) not_done = refl
makes_nothing lines a (Some Keep) not_done = refl
makes_nothing lines a (Some Drop) not_done = refl
makes_nothing lines a (Some (Repairs name)) not_done = refl
makes_nothing lines a (Some Timeline) not_done = refl
makes_nothing lines a None not_done = refl

true_no : true ≡ false → ⊥
true_no wrong = cc

holds_nothing : (a : Answered) (said : Option ModeLine) → is_done a.turn ≡ false → (agent : List ℕ) → held_as agent a said ≡ None
holds_nothing a (Some (Hold whose rest)) not_done agent = by (is_done a.turn) not_done where
  said_here : Option Held
  said_here = option_map (λ edit. record { line = a.number; edit = edit }) (edit_said (words (drop rest a.line)))

  by : (v : Bool) → v ≡ false → cond (same_name whose agent && v) said_here None ≡ None
  by true wrong = absurd (true_no wrong)
  by false is_false = ap (λ (v : Bool). cond v said_here None) (and_no (same_name whose agent))
holds_nothing a (Some (Commit whose)) not_done agent = refl
holds_nothing a (Some (Discard whose)) not_done agent = refl
holds_nothing a (Some Suppose) not_done agent = refl
holds_nothing a (Some Keep) not_done agent = refl
holds_nothing a (Some Drop) not_done agent = refl
holds_nothing a (Some (Repairs name)) not_done agent = refl
holds_nothing a (Some Timeline) not_done agent = refl
holds_nothing a None not_done agent = refl

-- a line without memory ends no batch
ends_nothing : (k : ℕ) (line : List ℕ) (said : Option ModeLine) (agent : List ℕ) → ends_as agent (record { number = k; line = line; turn = Memory }) said ≡ false
ends_nothing k line (Some (Commit whose)) agent = and_no (same_name whose agent)
ends_nothing k line (Some (Discard whose)) agent = and_no (same_name whose agent)
ends_nothing k line (Some (Hold whose rest)) agent = refl
ends_nothing k line (Some Suppose) agent = refl
ends_nothing k line (Some Keep) agent = refl
ends_nothing k line (Some Drop) agent = refl
ends_nothing k line (Some (Repairs name)) agent = refl
ends_nothing k line (Some Timeline) agent = refl
ends_nothing k line None agent = refl

-- the edit that words say
pub edit_said-reads : (ws : List (List ℕ)) (edit : Edit) → Reads Two ws (Change edit) → edit_said ws ≡ Some edit
edit_said-reads ws edit reads = ap (λ (l : Option Line). edit_in l) (line_of-complete Two ws (Change edit) reads)

-- ---- a line's step

module _ (lines : List Answered) (old : World) (is : IsWorldAfter lines old) (k : ℕ) (line : List ℕ) (new : World) where
  -- the line with this turn
  abbrev by_turn : Turn → Answered
  by_turn turn = record { number = k; line = line; turn = turn }

  stays : (turn : Turn) (said : Option ModeLine) → new ≡ old → is_done turn ≡ false
      → ((agent : List ℕ) → ends_as agent (by_turn turn) said ≡ false) → Leaves lines old (by_turn turn) said new
  stays turn said same not_done no_end = record {
    list = ap (λ (w : World). w.list) same ∙ sym (ap (λ (hs : List Held). list_after old.list hs) (makes_nothing lines (by_turn turn) said not_done));
    batches = λ agent.
        ap (λ (w : World). held_by w.batches agent) same ∙ sym (append-nil (held_by old.batches agent))
        ∙ sym (ap (λ (v : Bool). held_after v (held_by old.batches agent) (held_as agent (by_turn turn) said)) (no_end agent)
        ∙ ap (λ (o : Option Held). held_by old.batches agent ++ elements o) (holds_nothing (by_turn turn) said not_done agent));
    some = subst (λ (w : World). All HasEdit w.batches) (sym same) is.some;
    once = λ agent. subst (λ (w : World). batches_of w.batches agent ≤ 1) (sym same) (is.once agent);
  }

  -- a line that is not its agent's changes nothing
  others_stay : (turn : Turn) → SharingOther old k line turn new → Leaves lines old (by_turn turn) None new
  others_stay turn answers = by (elim answers [ for_change edit read refused same ↦ same | for_other none step same ↦ same ]) where
    by : new ≡ old → Leaves lines old (by_turn turn) None new
    by same = record {
      list = ap (λ (w : World). w.list) same;
      batches = λ agent. ap (λ (w : World). held_by w.batches agent) same ∙ sym (append-nil (held_by old.batches agent));
      some = subst (λ (w : World). All HasEdit w.batches) (sym same) is.some;
      once = λ agent. subst (λ (w : World). batches_of w.batches agent ≤ 1) (sym same) (is.once agent);
    }

  module _ (bytes : List ℕ) (room : ℕ) where
    -- the turn of this reply
    abbrev told : Bool → Turn
    told refused = Reply (record { items = bytes; room = room }) refused

    -- ---- an edit

    more_held : (whose : List ℕ) (rest : ℕ) (edit : Edit) → Reads Two (words (drop rest line)) (Change edit)
        → (agent : List ℕ) → held_by (with_held old.batches whose (record { line = k; edit = edit })) agent
        ≡ held_by old.batches agent ++ elements (held_as agent (by_turn (told false)) (Some (Hold whose rest)))
    more_held whose rest edit reads agent = by (same_name whose agent) refl where
      h : Held
      h = record { line = k; edit = edit }

      said_here : Option Held
      said_here = option_map (λ e. record { line = k; edit = e }) (edit_said (words (drop rest line)))

      is_said : said_here ≡ Some h
      is_said = ap (option_map (λ e. record { line = k; edit = e })) (edit_said-reads (words (drop rest line)) edit reads)

      by : (v : Bool) → same_name whose agent ≡ v → held_by (with_held old.batches whose h) agent ≡ held_by old.batches agent ++ elements (cond (v && true) said_here None)
      by true same =
          subst (λ (n : List ℕ). held_by (with_held old.batches whose h) n ≡ held_by old.batches n ++ h ∷ []) (same_name-is whose agent same) (held_by-with old.batches whose h)
          ∙ ap (λ (o : Option Held). held_by old.batches agent ++ elements o) (sym is_said)
      by false apart = held_by-with_other old.batches whose agent h apart ∙ sym (append-nil (held_by old.batches agent))

    holds : (whose : List ℕ) (rest : ℕ) (edit : Edit) (refused : Bool) → Reads Two (words (drop rest line)) (Change edit) → (cause : Option ModeCause)
        → Holds old k whose edit cause bytes refused new → Leaves lines old (by_turn (told refused)) (Some (Hold whose rest)) new
    holds whose rest edit refused reads (Some cause) answers =
        subst (λ (v : Bool). Leaves lines old (by_turn (told v)) (Some (Hold whose rest)) new) (sym answers.1)
        (stays (told true) (Some (Hold whose rest)) answers.2 refl (λ agent. refl))
    holds whose rest edit refused reads None answers =
        subst (λ (v : Bool). Leaves lines old (by_turn (told v)) (Some (Hold whose rest)) new) (sym answers.1)
        (subst (λ (w : World). Leaves lines old (by_turn (told false)) (Some (Hold whose rest)) w) (sym answers.2)
        (record {
          list = refl;
          batches = more_held whose rest edit reads;
          some = some-with old.batches whose (record { line = k; edit = edit }) is.some;
          once = once-held old.batches whose (record { line = k; edit = edit }) is.once;
        }))

    hold_leaves : (whose : List ℕ) (rest : ℕ) (refused : Bool) → HoldAnswers old k whose (words (drop rest line)) bytes refused new
        → Leaves lines old (by_turn (told refused)) (Some (Hold whose rest)) new
    hold_leaves whose rest refused answers = elim answers [
      | for_form none is_text refuses same ↦
          subst (λ (v : Bool). Leaves lines old (by_turn (told v)) (Some (Hold whose rest)) new) (sym refuses)
          (stays (told true) (Some (Hold whose rest)) same refl (λ agent. refl))
      | for_edit edit reads held ↦ holds whose rest edit refused reads (hold_cause old.batches whose) held
    ]

    -- ---- a commit or a discard

    none_held : (whose agent : List ℕ) → held_by (without old.batches whose) agent ≡ held_after (same_name whose agent && true) (held_by old.batches agent) None
    none_held whose agent = by (same_name whose agent) refl where
      by : (v : Bool) → same_name whose agent ≡ v → held_by (without old.batches whose) agent ≡ held_after (v && true) (held_by old.batches agent) None
      by true same = subst (λ (n : List ℕ). held_by (without old.batches whose) n ≡ []) (same_name-is whose agent same) (held_by-without old.batches whose)
      by false apart = held_by-without_other old.batches whose agent apart ∙ sym (append-nil (held_by old.batches agent))

    ends_batch : (whose : List ℕ) (refused : Bool) (said : ModeLine) → ((agent : List ℕ) → ends_as agent (by_turn (told refused)) (Some said) ≡ (same_name whose agent && true))
        → ((agent : List ℕ) → held_as agent (by_turn (told refused)) (Some said) ≡ None)
        → (after : World) → after.batches ≡ without old.batches whose → after.list ≡ list_after old.list (made_as lines (by_turn (told refused)) (Some said))
        → Leaves lines old (by_turn (told refused)) (Some said) after
    ends_batch whose refused said ends holds_none after batches list = record {
      list = list;
      batches = λ agent.
          ap (λ (bs : List Batch). held_by bs agent) batches ∙ none_held whose agent
          ∙ sym (ap (λ (v : Bool). held_after v (held_by old.batches agent) (held_as agent (by_turn (told refused)) (Some said))) (ends agent)
          ∙ ap (λ (o : Option Held). held_after (same_name whose agent && true) (held_by old.batches agent) o) (holds_none agent));
      some = subst (All HasEdit) (sym batches) (some-without old.batches whose is.some);
      once = λ agent. subst (λ (bs : List Batch). batches_of bs agent ≤ 1) (sym batches) (omega (arith, once-without old.batches whose agent, is.once agent));
    }

    commit_leaves : (whose : List ℕ) (refused : Bool) → CommitAnswers old k whose bytes refused new → Leaves lines old (by_turn (told refused)) (Some (Commit whose)) new
    commit_leaves whose refused answers = elim answers [
      | for_all all accepted text free same ↦
          subst (λ (v : Bool). Leaves lines old (by_turn (told v)) (Some (Commit whose)) new) (sym free)
          (ends_batch whose false (Commit whose) (λ agent. refl) (λ agent. refl) new (ap (λ (w : World). w.batches) same)
          (ap (λ (w : World). w.list) same ∙ ap (λ (hs : List Held). list_after old.list hs) (is.batches whose)))
      | for_none held refusal first text refuses same ↦
          subst (λ (v : Bool). Leaves lines old (by_turn (told v)) (Some (Commit whose)) new) (sym refuses)
          (ends_batch whose true (Commit whose) (λ agent. refl) (λ agent. refl) new (ap (λ (w : World). w.batches) same) (ap (λ (w : World). w.list) same))
    ]

    own_leaves : (refused : Bool) (form : ModeLine) → SharingOwn old k line form bytes refused new → Leaves lines old (by_turn (told refused)) (Some form) new
    own_leaves refused (Hold whose rest) answers = hold_leaves whose rest refused answers
    own_leaves refused (Commit whose) answers = commit_leaves whose refused answers
    own_leaves refused (Discard whose) answers =
        ends_batch whose refused (Discard whose) (λ agent. refl) (λ agent. refl) new (ap (λ (w : World). w.batches) answers.2) (ap (λ (w : World). w.list) answers.2)
    own_leaves refused Suppose never = absurd never
    own_leaves refused Keep never = absurd never
    own_leaves refused Drop never = absurd never
    own_leaves refused (Repairs name) never = absurd never
    own_leaves refused Timeline never = absurd never

  leaves : (turn : Turn) (said : Option ModeLine) → StepAs Sharing SharingOwn SharingOther said old k line turn new → Leaves lines old (by_turn turn) said new
  leaves turn None answers = others_stay turn answers
  leaves Silent (Some form) never = absurd never
  leaves Memory (Some form) same = stays Memory (Some form) same refl (λ agent. ends_nothing k line (Some form) agent)
  leaves (Reply bytes refused) (Some form) answers = own_leaves bytes.items bytes.room refused form answers

-- ---- all lines

step_tells : (lines : List Answered) (old new : World) (k : ℕ) (line : List ℕ) (turn : Turn) → IsWorldAfter lines old → SharingStep old k line turn new
    → IsWorldAfter (lines ++ record { number = k; line = line; turn = turn } ∷ []) new
step_tells lines old new k line turn is step =
    let a : Answered = record { number = k; line = line; turn = turn } in
    let left : Leaves lines old a (said_by a) new = leaves lines old is k line new turn (own_line Sharing line) step in
    record {
      list = left.list ∙ ap (λ (l : Standing). list_after l (made_as lines a (said_by a))) is.list ∙ sym (list_of-push lines a);
      batches = λ agent.
          left.batches agent
          ∙ ap (λ (hs : List Held). held_after (ends_as agent a (said_by a)) hs (held_as agent a (said_by a))) (is.batches agent)
          ∙ sym (batch_after-push lines a agent);
      some = left.some;
      once = left.once;
    }

run_tells : (before : List Answered) (old new : World) (k : ℕ) (lines : List (List ℕ)) (turns : List Turn) → IsWorldAfter before old → Run SharingStep old k lines turns new
    → IsWorldAfter (before ++ answered k lines turns) new
run_tells before old new k [] [] is same = subst (λ (ls : List Answered). IsWorldAfter ls new) (sym (append-nil before)) (subst (IsWorldAfter before) (sym same) is)
run_tells before old new k (line ∷ lines) (turn ∷ turns) is (mid, step, rest) =
    let a : Answered = record { number = k + 1; line = line; turn = turn } in
    subst (λ (ls : List Answered). IsWorldAfter ls new) (append_assoc before (a ∷ []) (answered (k + 1) lines turns))
    (run_tells (before ++ a ∷ []) mid new (k + 1) lines turns (step_tells before old mid (k + 1) line turn is step) rest)
run_tells before old new k [] (turn ∷ turns) is never = absurd never
run_tells before old new k (line ∷ lines) [] is never = absurd never

first_is : IsWorldAfter [] first_world
first_is = record { list = refl; batches = λ agent. refl; some = All-nil HasEdit; once = λ agent. omega arith }

pub lines_tell : LinesTellTheWorld
lines_tell lines turns w run = run_tells [] first_world w 0 lines turns first_is run
