-- Scripts with the same commits in the same order and of each agent the same lines in the same order
-- end with the same list.
use Rattle.std.proofs.Common.{◌≡◌, ℕ, ◌+◌, ◌≤◌, Bool, true, false, cond, List, [], ◌∷◌, ◌++◌, length, map, drop, Option, Some, None, refl, sym, ap, ◌∙◌, subst, inl, inr, arith}
use Rattle.std.specs.Prelude.{◌≢◌, ◌⊎◌, filter, option_map, nat_le, IsSome}
use Rattle.std.specs.List.{filter_map, cons_option}
use Rattle.std.proofs.lemmas.List.{map-append, append-nil}
use Rattle.tmm_grammar.specs.Reading.{line_of}
use Rattle.tmm_grammar.proofs.LineForms.{line_of-sound}
use Rattle.tmm_model.specs.declared.changes.Taken.{Taken}
use Rattle.tmm_model.specs.declared.line.Line.{Line}
use Rattle.tmm_model.specs.declared.line.Line.TheVariants.{Silent as Blank, Change, Question}
use Rattle.tmm_model.specs.declared.mode.Mode.TheVariants.{Agents as Sharing}
use Rattle.tmm_model.specs.declared.mode.ModeCause.{ModeCause}
use Rattle.tmm_model.specs.declared.mode.ModeCause.TheVariants.{LimitSuppose, Suppose as NoSuppose, Agent as NoAgent, LimitBatch, LimitAgents}
use Rattle.tmm_model.specs.declared.mode.ModeLine.{ModeLine}
use Rattle.tmm_model.specs.declared.mode.ModeLine.TheVariants.{Suppose, Keep, Drop, Hold, Commit, Discard, Repairs, Timeline}
use Rattle.tmm_model.specs.declared.premise.Edit.{Edit}
use Rattle.tmm_model.specs.declared.refusal.Refusal.{Refusal}
use Rattle.tmm_model.specs.declared.refusal.Refusal.TheVariants.{LimitLine, Form, Taken as TakenWord, Unknown, Sort, LimitPremises, LimitPoints, Cycle, LimitSize}
use Rattle.tmm_model.specs.declared.turn.Turn.{Turn}
use Rattle.tmm_model.specs.declared.turn.Turn.TheVariants.{Silent, Reply, Memory}
use Rattle.tmm_model.specs.declared.version.Version.TheVariants.{Two}
use Rattle.tmm_model.specs.Edits.{next_list}
use Rattle.tmm_model.specs.Kept.{IsAccepted}
use Rattle.tmm_model.specs.Lines.{Reads, words}
use Rattle.tmm_model.specs.Modes.{own_no, where_true}
use Rattle.tmm_model.specs.Points.{same_name}
use Rattle.tmm_model.specs.Runs.{Run, turn_text, is_memory}
use Rattle.tmm_model.specs.Standing.{Standing}
use Rattle.tmm_model.specs.Transcript.{RefusesEdit}
use Rattle.tmm_model.specs.Verdicts.{list_cause, Cause, Tells}
use Rattle.walk_theory.proofs.Points.{same_name-is, same_name-self}
use Rattle.mode_session.specs.ModeSteps.{own_line, StepAs}
use Rattle.agents.specs.declared.batches.Held.{Held}
use Rattle.agents.specs.declared.batches.TheConstants.{MOST_HELD, MOST_AGENTS}
use Rattle.agents.specs.Batches.{held_by, with_held, without, hold_cause, limit_of}
use Rattle.agents.specs.Commits.{list_after, AcceptedInTurn, RefusedAt}
use Rattle.agents.specs.Histories.{edit_in, edit_said}
use Rattle.agents.specs.Interleavings.{UnlimitedStep, OrderOfCommitsDecides, is_commit, is_line_of, says_commit, says_as}
use Rattle.agents.specs.Sharing.{SharingOwn, SharingOther, SharingStep, HoldAnswers, Holds, CommitAnswers, for_form, for_edit, for_all, for_none, for_change, for_other}
use Rattle.agents.specs.Worlds.{World, first_world}
use Rattle.agents.proofs.HeldBy.{held_by-with, held_by-with_other, held_by-without, held_by-without_other}
use Rattle.agents.proofs.LinesTell.{edit_said-reads}

-- ---- edits made together, without the numbers of their lines

-- the edits alone
abbrev edits_in : List Held → List Edit
edits_in held = map (λ h. h.edit) held

-- each is accepted on the list that those before it leave
abbrev AllAccepted : Standing → List Edit → Type 0
AllAccepted list [] = Unit {0}
AllAccepted list (e ∷ es) = IsAccepted list e × AllAccepted (next_list list e) es

-- the list after them
abbrev all_made : Standing → List Edit → Standing
all_made list [] = list
all_made list (e ∷ es) = all_made (next_list list e) es

-- the list after a commit of them: where one is refused, the one before
abbrev Made : Standing → List Edit → Standing → Type 0
Made list es new = (AllAccepted list es × (new ≡ all_made list es)) ⊎ ((AllAccepted list es → ⊥) × (new ≡ list))

made_one : (list : Standing) (es : List Edit) (m n : Standing) → Made list es m → Made list es n → m ≡ n
made_one list es m n (inl all) (inl too) = all.1 ∙ sym too.1
made_one list es m n (inl all) (inr never) = absurd (never.0 all.0)
made_one list es m n (inr never) (inl all) = absurd (never.0 all.0)
made_one list es m n (inr one) (inr too) = one.1 ∙ sym too.1

no_cause_told : (cause : Option Cause) → cause ≡ None → IsSome cause → ⊥
no_cause_told None none some = cc
no_cause_told (Some cause) none some = cc

-- what is refused is not accepted
refused_apart : (list : Standing) (e : Edit) (refusal : Refusal) → RefusesEdit list e refusal → IsAccepted list e → ⊥
refused_apart list e (Cycle sum steps) refuses accepted = refuses.no_dates accepted.dates
refused_apart list e LimitSize refuses accepted = omega (arith, refuses.large, accepted.small)
refused_apart list e LimitLine refuses accepted = no_cause_told (list_cause list e) accepted.no_cause refuses.0
refused_apart list e Form refuses accepted = no_cause_told (list_cause list e) accepted.no_cause refuses.0
refused_apart list e (TakenWord word) refuses accepted = no_cause_told (list_cause list e) accepted.no_cause refuses.0
refused_apart list e (Unknown word) refuses accepted = no_cause_told (list_cause list e) accepted.no_cause refuses.0
refused_apart list e (Sort word) refuses accepted = no_cause_told (list_cause list e) accepted.no_cause refuses.0
refused_apart list e LimitPremises refuses accepted = no_cause_told (list_cause list e) accepted.no_cause refuses.0
refused_apart list e LimitPoints refuses accepted = no_cause_told (list_cause list e) accepted.no_cause refuses.0

accepted_all : (list : Standing) (held : List Held) (all : List Taken) → AcceptedInTurn list held all → AllAccepted list (edits_in held)
accepted_all list [] [] accepted = tt
accepted_all list (h ∷ held) (t ∷ all) (accepted, line, changed, rest) = (accepted, accepted_all (next_list list h.edit) held all rest)
accepted_all list [] (t ∷ all) never = absurd never
accepted_all list (h ∷ held) [] never = absurd never

refused_some : (list : Standing) (held : List Held) (line : ℕ) (refusal : Refusal) → RefusedAt list held line refusal → AllAccepted list (edits_in held) → ⊥
refused_some list [] line refusal never all = never
refused_some list (h ∷ held) line refusal (inl here) all = refused_apart list h.edit refusal here.1 all.0
refused_some list (h ∷ held) line refusal (inr behind) all = refused_some (next_list list h.edit) held line refusal behind.1 all.1

list_after-edits : (list : Standing) (held : List Held) → list_after list held ≡ all_made list (edits_in held)
list_after-edits list [] = refl
list_after-edits list (h ∷ held) = list_after-edits (next_list list h.edit) held

-- ---- what an agent does by a line

-- it holds an edit, or commits or discards what it holds
data Move : Type 0 where
  holds : Edit → Move
  commits : Move
  discards : Move

-- the agent's move by a line, by what that says
abbrev move_as : List ℕ → List ℕ → Option ModeLine → Option Move
move_as agent line (Some (Hold whose rest)) = cond (same_name whose agent) (option_map holds (edit_said (words (drop rest line)))) None
move_as agent line (Some (Commit whose)) = cond (same_name whose agent) (Some commits) None
move_as agent line (Some (Discard whose)) = cond (same_name whose agent) (Some discards) None
move_as agent line said = None

-- the edits that the agent holds after the move
abbrev held_next : Option Move → List Edit → List Edit
held_next None es = es
held_next (Some (holds e)) es = es ++ e ∷ []
held_next (Some commits) es = []
held_next (Some discards) es = []

-- the batch that the move commits, in a list
abbrev told_by : Option Move → List Edit → List (List Edit)
told_by (Some commits) es = es ∷ []
told_by move es = []

-- the batches that an agent commits by lines, where it holds these edits before
abbrev committed_by : List ℕ → List Edit → List (List ℕ) → List (List Edit)
committed_by agent es [] = []
committed_by agent es (line ∷ lines) =
    told_by (move_as agent line (own_line Sharing line)) es
    ++ committed_by agent (held_next (move_as agent line (own_line Sharing line)) es) lines

-- the agent of a commit
abbrev commit_in : Option ModeLine → Option (List ℕ)
commit_in (Some (Commit agent)) = Some agent
commit_in said = None

-- the agents that commit, in order
abbrev committers : List (List ℕ) → List (List ℕ)
committers lines = filter_map (λ line. commit_in (own_line Sharing line)) lines

-- ---- lines left out

not_mine : (agent line : List ℕ) (said : Option ModeLine) → says_as agent said ≡ false → move_as agent line said ≡ None
not_mine agent line (Some (Hold whose rest)) other = ap (λ (v : Bool). cond v (option_map holds (edit_said (words (drop rest line)))) None) other
not_mine agent line (Some (Commit whose)) other = ap (λ (v : Bool). cond v (Some commits) None) other
not_mine agent line (Some (Discard whose)) other = ap (λ (v : Bool). cond v (Some discards) None) other
not_mine agent line (Some Suppose) other = refl
not_mine agent line (Some Keep) other = refl
not_mine agent line (Some Drop) other = refl
not_mine agent line (Some (Repairs name)) other = refl
not_mine agent line (Some Timeline) other = refl
not_mine agent line None other = refl

committed_by-own : (agent : List ℕ) (es : List Edit) (lines : List (List ℕ)) → committed_by agent es (filter (is_line_of agent) lines) ≡ committed_by agent es lines
committed_by-own agent es [] = refl
committed_by-own agent es (line ∷ lines) = by (λ fs. committed_by-own agent fs lines) (is_line_of agent line) refl where
  move : Option Move
  move = move_as agent line (own_line Sharing line)

  kept : List (List ℕ)
  kept = filter (is_line_of agent) lines

  by : ((fs : List Edit) → committed_by agent fs kept ≡ committed_by agent fs lines) → (v : Bool) → is_line_of agent line ≡ v
      → committed_by agent es (cond v (line ∷ kept) kept) ≡ told_by move es ++ committed_by agent (held_next move es) lines
  by again true mine = ap (λ (bs : List (List Edit)). told_by move es ++ bs) (again (held_next move es))
  by again false other =
      again es ∙ sym (ap (λ (m : Option Move). told_by m es ++ committed_by agent (held_next m es) lines) (not_mine agent line (own_line Sharing line) other))

no_commit : (said : Option ModeLine) → says_commit said ≡ false → commit_in said ≡ None
no_commit (Some (Commit agent)) none = cc
no_commit (Some (Hold agent rest)) none = refl
no_commit (Some (Discard agent)) none = refl
no_commit (Some Suppose) none = refl
no_commit (Some Keep) none = refl
no_commit (Some Drop) none = refl
no_commit (Some (Repairs name)) none = refl
no_commit (Some Timeline) none = refl
no_commit None none = refl

committers-commits : (lines : List (List ℕ)) → committers (filter is_commit lines) ≡ committers lines
committers-commits [] = refl
committers-commits (line ∷ lines) = by (committers-commits lines) (is_commit line) refl where
  kept : List (List ℕ)
  kept = filter is_commit lines

  by : committers kept ≡ committers lines → (v : Bool) → is_commit line ≡ v → committers (cond v (line ∷ kept) kept) ≡ cons_option (commit_in (own_line Sharing line)) (committers lines)
  by again true commit = ap (λ (them : List (List ℕ)). cons_option (commit_in (own_line Sharing line)) them) again
  by again false other =
      again ∙ sym (ap (λ (o : Option (List ℕ)). cons_option o (committers lines)) (no_commit (own_line Sharing line) other))

-- ---- what commits come to

-- the first batch, none where there is none
abbrev first_of : List (List Edit) → List Edit
first_of [] = []
first_of (es ∷ batches) = es

-- the batches behind the first
abbrev behind_first : List (List Edit) → List (List Edit)
behind_first [] = []
behind_first (es ∷ batches) = batches

-- the batches of each agent once one of them has committed its first
abbrev behind : (List ℕ → List (List Edit)) → List ℕ → List ℕ → List (List Edit)
behind batches who agent = cond (same_name who agent) (behind_first (batches agent)) (batches agent)

-- the list that is left where these agents commit one after the other, each the next of its batches
abbrev Comes : Standing → List (List ℕ) → (List ℕ → List (List Edit)) → Standing → Type 0
Comes list [] batches new = new ≡ list
Comes list (who ∷ others) batches new = (mid : Standing) × Made list (first_of (batches who)) mid × Comes mid others (behind batches who) new

comes_same : (list : Standing) (them : List (List ℕ)) (f g : List ℕ → List (List Edit)) (new : Standing) → ((agent : List ℕ) → f agent ≡ g agent) → Comes list them f new → Comes list them g new
comes_same list [] f g new same comes = comes
comes_same list (who ∷ others) f g new same (mid, made, rest) = (
  mid,
  subst (λ (bs : List (List Edit)). Made list (first_of bs) mid) (same who) made,
  comes_same mid others (behind f who) (behind g who) new (λ agent. ap (λ (bs : List (List Edit)). cond (same_name who agent) (behind_first bs) bs) (same agent)) rest,
)

comes_one : (list : Standing) (them : List (List ℕ)) (f : List ℕ → List (List Edit)) (m n : Standing) → Comes list them f m → Comes list them f n → m ≡ n
comes_one list [] f m n one other = one ∙ sym other
comes_one list (who ∷ others) f m n (a, made, rest) (b, made_too, rest_too) =
    comes_one a others (behind f who) m n rest
    (subst (λ (l : Standing). Comes l others (behind f who) n) (sym (made_one list (first_of (f who)) a b made made_too)) rest_too)

-- ---- what a line leaves

-- the list is left as it is, or is what a commit of the agent's batch leaves
abbrev LeavesList : Option (List ℕ) → World → Standing → Type 0
LeavesList None old new = new ≡ old.list
LeavesList (Some who) old new = Made old.list (edits_in (held_by old.batches who)) new

record Moved (old : World) (line : List ℕ) (said : Option ModeLine) (new : World) : Type 0 where
  pub list : LeavesList (commit_in said) old new.list
  pub held : (agent : List ℕ) → edits_in (held_by new.batches agent) ≡ held_next (move_as agent line said) (edits_in (held_by old.batches agent))

-- what says no edit
edit_said-none : (ws : List (List ℕ)) → ((edit : Edit) → Reads Two ws (Change edit) → ⊥) → edit_said ws ≡ None
edit_said-none ws none = by (line_of Two ws) refl where
  by : (o : Option Line) → line_of Two ws ≡ o → edit_in o ≡ None
  by None is = refl
  by (Some Blank) is = refl
  by (Some (Question query)) is = refl
  by (Some (Change edit)) is = absurd (none edit (line_of-sound Two ws (Change edit) is))

-- an edit that is not held is refused for one of the two limits
limit_is : (held : List Held) (agents : ℕ) (cause : ModeCause) → limit_of held agents ≡ Some cause → (cause ≡ LimitAgents) ⊎ (cause ≡ LimitBatch)
limit_is [] agents cause is = by (nat_le MOST_AGENTS agents) is where
  by : (v : Bool) → where_true v LimitAgents ≡ Some cause → (cause ≡ LimitAgents) ⊎ (cause ≡ LimitBatch)
  by true told = let same : cause ≡ LimitAgents = cc in inl same
  by false told = let same : cause ≡ LimitAgents = cc in inl same
limit_is (h ∷ held) agents cause is = by (nat_le MOST_HELD (length (h ∷ held))) is where
  by : (v : Bool) → where_true v LimitBatch ≡ Some cause → (cause ≡ LimitAgents) ⊎ (cause ≡ LimitBatch)
  by true told = let same : cause ≡ LimitBatch = cc in inr same
  by false told = let same : cause ≡ LimitBatch = cc in inr same

module _ (old new : World) (k : ℕ) (line : List ℕ) where
  -- where nothing changes and no agent moves
  stays : (said : Option ModeLine) → new ≡ old → commit_in said ≡ None → ((agent : List ℕ) → move_as agent line said ≡ None) → Moved old line said new
  stays said same none still = record {
    list = subst (λ (o : Option (List ℕ)). LeavesList o old new.list) (sym none) (ap (λ (w : World). w.list) same);
    held = λ agent.
        ap (λ (w : World). edits_in (held_by w.batches agent)) same
        ∙ sym (ap (λ (m : Option Move). held_next m (edits_in (held_by old.batches agent))) (still agent));
  }

  others_stay : (turn : Turn) → SharingOther old k line turn new → Moved old line None new
  others_stay turn answers = elim answers [
    | for_change edit read refused same ↦ stays None same refl (λ agent. refl)
    | for_other none step same ↦ stays None same refl (λ agent. refl)
  ]

  module _ (bytes : List ℕ) (refused : Bool) (no_batch : bytes ≢ own_no k LimitBatch) (no_agents : bytes ≢ own_no k LimitAgents) where
    nothing_said : (whose : List ℕ) (rest : ℕ) → edit_said (words (drop rest line)) ≡ None → (agent : List ℕ) → move_as agent line (Some (Hold whose rest)) ≡ None
    nothing_said whose rest none agent = ap (λ (o : Option Edit). cond (same_name whose agent) (option_map holds o) None) none ∙ by (same_name whose agent) where
      by : (v : Bool) → cond v (option_map holds None) None ≡ None
      by true = refl
      by false = refl

    holds_more : (whose : List ℕ) (rest : ℕ) (edit : Edit) → edit_said (words (drop rest line)) ≡ Some edit → (agent : List ℕ)
        → edits_in (held_by (with_held old.batches whose (record { line = k; edit = edit })) agent)
        ≡ held_next (move_as agent line (Some (Hold whose rest))) (edits_in (held_by old.batches agent))
    holds_more whose rest edit said agent = by (same_name whose agent) refl where
      h : Held
      h = record { line = k; edit = edit }

      by : (v : Bool) → same_name whose agent ≡ v → edits_in (held_by (with_held old.batches whose h) agent)
          ≡ held_next (cond v (option_map holds (edit_said (words (drop rest line)))) None) (edits_in (held_by old.batches agent))
      by true same =
          subst (λ (n : List ℕ). edits_in (held_by (with_held old.batches whose h) n) ≡ edits_in (held_by old.batches n) ++ edit ∷ []) (same_name-is whose agent same)
          (ap (λ (hs : List Held). edits_in hs) (held_by-with old.batches whose h) ∙ map-append (λ h. h.edit) (held_by old.batches whose) (h ∷ []))
          ∙ sym (ap (λ (o : Option Edit). held_next (option_map holds o) (edits_in (held_by old.batches agent))) said)
      by false apart = ap (λ (hs : List Held). edits_in hs) (held_by-with_other old.batches whose agent h apart)

    holds_moves : (whose : List ℕ) (rest : ℕ) (edit : Edit) → Reads Two (words (drop rest line)) (Change edit) → (cause : Option ModeCause) → hold_cause old.batches whose ≡ cause
        → Holds old k whose edit cause bytes refused new → Moved old line (Some (Hold whose rest)) new
    holds_moves whose rest edit reads (Some cause) is answers =
        elim (limit_is (held_by old.batches whose) (length old.batches) cause is) [
          | inl agents ↦ absurd (no_agents (answers.0 ∙ ap (λ (c : ModeCause). own_no k c) agents))
          | inr batch ↦ absurd (no_batch (answers.0 ∙ ap (λ (c : ModeCause). own_no k c) batch))
        ]
    holds_moves whose rest edit reads None is answers = record {
      list = ap (λ (w : World). w.list) answers.2;
      held = λ agent.
          ap (λ (w : World). edits_in (held_by w.batches agent)) answers.2
          ∙ holds_more whose rest edit (edit_said-reads (words (drop rest line)) edit reads) agent;
    }

    hold_moves : (whose : List ℕ) (rest : ℕ) → HoldAnswers old k whose (words (drop rest line)) bytes refused new → Moved old line (Some (Hold whose rest)) new
    hold_moves whose rest answers = elim answers [
      | for_form none is_text refuses same ↦ stays (Some (Hold whose rest)) same refl (nothing_said whose rest (edit_said-none (words (drop rest line)) none))
      | for_edit edit reads held ↦ holds_moves whose rest edit reads (hold_cause old.batches whose) refl held
    ]

    -- what is left where an agent's edits are gone
    none_left : (whose : List ℕ) (move : Move) → ((es : List Edit) → held_next (Some move) es ≡ []) → new.batches ≡ without old.batches whose → (agent : List ℕ)
        → edits_in (held_by new.batches agent) ≡ held_next (cond (same_name whose agent) (Some move) None) (edits_in (held_by old.batches agent))
    none_left whose move forgets is agent = ap (λ bs. edits_in (held_by bs agent)) is ∙ by (same_name whose agent) refl where
      by : (v : Bool) → same_name whose agent ≡ v → edits_in (held_by (without old.batches whose) agent) ≡ held_next (cond v (Some move) None) (edits_in (held_by old.batches agent))
      by true same =
          subst (λ (n : List ℕ). edits_in (held_by (without old.batches whose) n) ≡ []) (same_name-is whose agent same) (ap (λ (hs : List Held). edits_in hs) (held_by-without old.batches whose))
          ∙ sym (forgets (edits_in (held_by old.batches agent)))
      by false apart = ap (λ (hs : List Held). edits_in hs) (held_by-without_other old.batches whose agent apart)

    commit_moves : (whose : List ℕ) → CommitAnswers old k whose bytes refused new → Moved old line (Some (Commit whose)) new
    commit_moves whose answers = elim answers [
      | for_all all accepted text free same ↦ record {
        list = inl (
          accepted_all old.list (held_by old.batches whose) all accepted,
          ap (λ (w : World). w.list) same ∙ list_after-edits old.list (held_by old.batches whose),
        );
        held = none_left whose commits (λ es. refl) (ap (λ (w : World). w.batches) same);
      }
      | for_none held refusal first text refuses same ↦ record {
        list = inr (refused_some old.list (held_by old.batches whose) held refusal first, ap (λ (w : World). w.list) same);
        held = none_left whose commits (λ es. refl) (ap (λ (w : World). w.batches) same);
      }
    ]

    own_moves : (form : ModeLine) → SharingOwn old k line form bytes refused new → Moved old line (Some form) new
    own_moves (Hold whose rest) answers = hold_moves whose rest answers
    own_moves (Commit whose) answers = commit_moves whose answers
    own_moves (Discard whose) answers = record {
      list = ap (λ (w : World). w.list) answers.2;
      held = none_left whose discards (λ es. refl) (ap (λ (w : World). w.batches) answers.2);
    }
    own_moves Suppose never = absurd never
    own_moves Keep never = absurd never
    own_moves Drop never = absurd never
    own_moves (Repairs name) never = absurd never
    own_moves Timeline never = absurd never

  no_memory : true ≡ false → ⊥
  no_memory wrong = cc

  moved : (turn : Turn) (said : Option ModeLine) → StepAs Sharing SharingOwn SharingOther said old k line turn new
      → is_memory turn ≡ false → turn_text k turn ≢ own_no k LimitBatch → turn_text k turn ≢ own_no k LimitAgents → Moved old line said new
  moved turn None answers free no_batch no_agents = others_stay turn answers
  moved Silent (Some form) never free no_batch no_agents = absurd never
  moved Memory (Some form) same free no_batch no_agents = absurd (no_memory free)
  moved (Reply bytes refused) (Some form) answers free no_batch no_agents = own_moves bytes.items refused no_batch no_agents form answers

-- ---- all lines

-- the batches that each agent commits by lines from a world on
abbrev from_world : World → List (List ℕ) → List ℕ → List (List Edit)
from_world w lines agent = committed_by agent (edits_in (held_by w.batches agent)) lines

-- with one line in front
abbrev by_said : World → List ℕ → Option ModeLine → List (List ℕ) → List ℕ → List (List Edit)
by_said w line said lines agent =
    told_by (move_as agent line said) (edits_in (held_by w.batches agent))
    ++ committed_by agent (held_next (move_as agent line said) (edits_in (held_by w.batches agent))) lines

module _ (old mid : World) (line : List ℕ) (lines : List (List ℕ)) (new : Standing) where
  -- a line that is no commit tells no batch
  quiet : (said : Option ModeLine) → commit_in said ≡ None → (agent : List ℕ) (es : List Edit) → told_by (move_as agent line said) es ≡ []
  quiet (Some (Hold whose rest)) none agent es = by (same_name whose agent) (edit_said (words (drop rest line))) where
    by : (v : Bool) (o : Option Edit) → told_by (cond v (option_map holds o) None) es ≡ []
    by true None = refl
    by true (Some edit) = refl
    by false o = refl
  quiet (Some (Commit whose)) none agent es = cc
  quiet (Some (Discard whose)) none agent es = by (same_name whose agent) where
    by : (v : Bool) → told_by (cond v (Some discards) None) es ≡ []
    by true = refl
    by false = refl
  quiet (Some Suppose) none agent es = refl
  quiet (Some Keep) none agent es = refl
  quiet (Some Drop) none agent es = refl
  quiet (Some (Repairs name)) none agent es = refl
  quiet (Some Timeline) none agent es = refl
  quiet None none agent es = refl

  -- a line that is no commit
  goes_on : (said : Option ModeLine) → commit_in said ≡ None → Moved old line said mid → Comes mid.list (committers lines) (from_world mid lines) new
      → Comes old.list (cons_option (commit_in said) (committers lines)) (by_said old line said lines) new
  goes_on said none move comes =
      subst (λ (o : Option (List ℕ)). Comes old.list (cons_option o (committers lines)) (by_said old line said lines) new) (sym none)
      (comes_same old.list (committers lines) (from_world mid lines) (by_said old line said lines) new
      (λ agent.
      ap (λ (es : List Edit). committed_by agent es lines) (move.held agent)
      ∙ sym (ap (λ (bs : List (List Edit)). bs ++ committed_by agent (held_next (move_as agent line said) (edits_in (held_by old.batches agent))) lines)
      (quiet said none agent (edits_in (held_by old.batches agent)))))
      (subst (λ (l : Standing). Comes l (committers lines) (from_world mid lines) new) (subst (λ (o : Option (List ℕ)). LeavesList o old mid.list) none move.list) comes))

  -- a commit
  commits_on : (who : List ℕ) → Moved old line (Some (Commit who)) mid → Comes mid.list (committers lines) (from_world mid lines) new
      → Comes old.list (who ∷ committers lines) (by_said old line (Some (Commit who)) lines) new
  commits_on who move comes = (
    mid.list,
    subst (λ (v : Bool). Made old.list (first_of (told_by (cond v (Some commits) None) held ++ committed_by who (held_next (cond v (Some commits) None) held) lines)) mid.list)
        (sym (same_name-self who)) move.list,
    comes_same mid.list (committers lines) (from_world mid lines) (behind (by_said old line (Some (Commit who)) lines) who) new
        (λ agent. ap (λ (es : List Edit). committed_by agent es lines) (move.held agent) ∙ by agent (same_name who agent)) comes,
  ) where
    held : List Edit
    held = edits_in (held_by old.batches who)

    by : (agent : List ℕ) (v : Bool)
        → committed_by agent (held_next (cond v (Some commits) None) (edits_in (held_by old.batches agent))) lines
        ≡ cond v
        (behind_first (told_by (cond v (Some commits) None) (edits_in (held_by old.batches agent)) ++ committed_by agent (held_next (cond v (Some commits) None) (edits_in (held_by old.batches agent))) lines))
        (told_by (cond v (Some commits) None) (edits_in (held_by old.batches agent)) ++ committed_by agent (held_next (cond v (Some commits) None) (edits_in (held_by old.batches agent))) lines)
    by agent true = refl
    by agent false = refl

  comes_on : (said : Option ModeLine) → Moved old line said mid → Comes mid.list (committers lines) (from_world mid lines) new
      → Comes old.list (cons_option (commit_in said) (committers lines)) (by_said old line said lines) new
  comes_on (Some (Commit who)) move comes = commits_on who move comes
  comes_on (Some (Hold whose rest)) move comes = goes_on (Some (Hold whose rest)) refl move comes
  comes_on (Some (Discard whose)) move comes = goes_on (Some (Discard whose)) refl move comes
  comes_on (Some Suppose) move comes = goes_on (Some Suppose) refl move comes
  comes_on (Some Keep) move comes = goes_on (Some Keep) refl move comes
  comes_on (Some Drop) move comes = goes_on (Some Drop) refl move comes
  comes_on (Some (Repairs name)) move comes = goes_on (Some (Repairs name)) refl move comes
  comes_on (Some Timeline) move comes = goes_on (Some Timeline) refl move comes
  comes_on None move comes = goes_on None refl move comes

run_comes : (old new : World) (k : ℕ) (lines : List (List ℕ)) (turns : List Turn) → Run UnlimitedStep old k lines turns new
    → Comes old.list (committers lines) (from_world old lines) new.list
run_comes old new k [] [] same = ap (λ (w : World). w.list) same
run_comes old new k (line ∷ lines) (turn ∷ turns) (mid, step, rest) =
    comes_on old mid line lines new.list (own_line Sharing line)
    (moved old mid (k + 1) line turn (own_line Sharing line) step.0 step.1 step.2 step.3)
    (run_comes mid new (k + 1) lines turns rest)
run_comes old new k [] (turn ∷ turns) never = absurd never
run_comes old new k (line ∷ lines) [] never = absurd never

pub commits_decide : OrderOfCommitsDecides
commits_decide one other ones others w v run run_too commits_same lines_same =
    comes_one first_world.list (committers one) (from_world first_world one) w.list v.list
    (run_comes first_world w 0 one ones run)
    (subst (λ (them : List (List ℕ)). Comes first_world.list them (from_world first_world one) v.list)
    (sym (committers-commits other) ∙ ap (λ (ls : List (List ℕ)). committers ls) (sym commits_same) ∙ committers-commits one)
    (comes_same first_world.list (committers other) (from_world first_world other) (from_world first_world one) v.list
    (λ agent.
    sym (committed_by-own agent [] other)
    ∙ ap (λ (ls : List (List ℕ)). committed_by agent [] ls) (sym (lines_same agent))
    ∙ committed_by-own agent [] one)
    (run_comes first_world v 0 other others run_too)))
