-- Each line has an answer besides want of memory.
use Rattle.std.proofs.Common.{◌≡◌, ◌∙◌, inl, inr, ℕ, ◌+◌, ◌≤◌, Bool, true, false, cond, ◌||◌, List, [], ◌∷◌, length, map, refl, sym, ap, subst}
use Rattle.std.proofs.lemmas.Bool.{cases_lt}
use Rattle.std.specs.Prelude.{codes, Option, Some, None, IsSome}
use Rattle.std.specs.List.{Contains, list_any}
use Rattle.std.specs.Map.{lookup}
use Rattle.std.specs.Option.{option_map, option_or}
use Rattle.tmm_model.specs.declared.line.Line.{Line}
use Rattle.tmm_model.specs.declared.line.Line.TheVariants.{Silent, Change, Question}
use Rattle.tmm_model.specs.declared.line.Query.{Query}
use Rattle.tmm_model.specs.declared.line.Query.TheVariants.{Bounds, Path, Ask, Why, Check, List as Listing, Dump, Audit, Size}
use Rattle.tmm_model.specs.declared.point.Occ.{Occ}
use Rattle.tmm_model.specs.declared.point.PointName.TheVariants.{Begin}
use Rattle.tmm_model.specs.declared.point.QueryPoint.{QueryPoint}
use Rattle.tmm_model.specs.declared.point.QueryPoint.TheVariants.{Declared, Derived}
use Rattle.tmm_model.specs.declared.premise.Edit.{Edit}
use Rattle.tmm_model.specs.declared.premise.Premise.{Premise}
use Rattle.tmm_model.specs.declared.premise.Premise.TheVariants.{Class, Kind, Point, Event, Token, Span, Dist, Rule, Protect, Against}
use Rattle.tmm_model.specs.declared.refusal.Refusal.{Refusal}
use Rattle.tmm_model.specs.declared.refusal.Refusal.TheVariants.{LimitLine, Form, Taken, Unknown, Sort as IllSorted, LimitPremises, LimitPoints, Cycle, LimitSize}
use Rattle.tmm_model.specs.declared.turn.Turn.{Turn}
use Rattle.tmm_model.specs.declared.turn.Turn.TheVariants.{Silent as NoReply, Reply as ReplyOf}
use Rattle.tmm_model.specs.declared.version.Version.{Version}
use Rattle.tmm_model.specs.Answers.{size, most_size}
use Rattle.tmm_model.specs.Beliefs.{roots, root_of}
use Rattle.tmm_model.specs.Bounds.{bound_negated}
use Rattle.tmm_model.specs.Edits.{next_list}
use Rattle.tmm_model.specs.Kept.{IsAccepted}
use Rattle.tmm_model.specs.Lines.{words, shown_text, is_comment, IsWellFormedEdit, IsEditOf, IsWellFormedQuery, IsWellFormedQueryPoint, Reads, ReadsLine}
use Rattle.tmm_model.specs.Maps.{built, gap, is_believed}
use Rattle.tmm_model.specs.Moments.{At, along, moment_of, moment_of_point}
use Rattle.tmm_model.specs.Points.{same_name, occ_word}
use Rattle.tmm_model.specs.Questions.{is_root, why_cause, query_cause}
use Rattle.tmm_model.specs.Replies.{Reply, Accepted, Refused, BoundsAre, PathIs, Answered, Reasons, BrokenAre, Believed, DumpIs, AuditYes, SizeIs, text_of, is_refusal}
use Rattle.tmm_model.specs.Runs.{Run, is_memory}
use Rattle.tmm_model.specs.Sorts.{Sort, a_kind, a_point, an_event, a_token, a_span, a_dist, a_rule, a_protection, a_rivalry, declarations_of, declarations_in, fact_declaration, sort_in}
use Rattle.tmm_model.specs.Standing.{Standing, IsConsistent, empty_list}
use Rattle.tmm_model.specs.Transcript.{most_bytes, RefusesEdit, AnswersEdit, AnswersQuery, LineAnswers, for_length, for_form, for_meaning, Step}
use Rattle.tmm_model.specs.Verdicts.{Cause, out_of_form, taken, unknown, ill_sorted, too_many_premises, too_many_points, list_cause, name_cause, told_cause, Tells}
use Rattle.tmm_grammar.specs.Reading.{line_of, edit_of, query_of}
use Rattle.tmm_grammar.proofs.LineForms.{IsBareQuery, query_of-sound, line_of-sound, line_of-none}
use Rattle.tmm_grammar.proofs.LinePoints.{IsBarePoint}
use Rattle.tmm_grammar.proofs.LineReaders.{chosen}
use Rattle.walk_theory.proofs.Points.{same_name-is}
use Rattle.list_theory.specs.WellNamed.{IsSound}
use Rattle.list_theory.proofs.Elements.{In, Contains-from_In, filter_map-In, In-flat_map, In-map}
use Rattle.belief_theory.specs.KeptLists.{IsKept}
use Rattle.belief_theory.proofs.SoundBeliefs.{believed_right}
use Rattle.belief_theory.proofs.StayKept.{empty_is_kept, stays_kept}
use Rattle.belief_theory.proofs.Upholding.{among}
use Rattle.tmm_laws.specs.EachAnswered.{LinesAreAnswered, ScriptsAreAnswered}
use Rattle.tmm_laws.proofs.Dateless.{dates_or_cycle}
use Rattle.tmm_laws.proofs.KeptRuns.{step_keeps}
use Rattle.tmm_laws.proofs.ToldReasons.{gives_path, why_said}
use Rattle.tmm_laws.proofs.ToldValues.{tells_occs, ask_said, reports_said, rows_said, changes_said}

-- ---- a line reads as something, or as nothing

well_formed_point : (p : QueryPoint) → IsBarePoint p → IsWellFormedQueryPoint p
well_formed_point (Declared p) h = h
well_formed_point (Derived o) h = (h.0.0, h.1)

well_formed_query : (q : Query) → IsBareQuery q → IsWellFormedQuery q
well_formed_query (Bounds p q) h = (well_formed_point p h.0, well_formed_point q h.1)
well_formed_query (Path p q) h = (well_formed_point p h.0, well_formed_point q h.1)
well_formed_query (Ask fact p q) h = (h.0, well_formed_point p h.1, well_formed_point q h.2)
well_formed_query (Why o) h = h.0
well_formed_query Check h = tt
well_formed_query Listing h = tt
well_formed_query Dump h = tt
well_formed_query Audit h = tt
well_formed_query Size h = tt

-- a question that is found is read
question_read : (version : Version) (ws : List (List ℕ)) (q : Query) → line_of version ws ≡ Some (Question q) → Reads version ws (Question q)
unfolding line_of
question_read version [] q e = cc
question_read version (w ∷ ws) q e =
    elim (chosen (is_comment w) (Some Silent) (option_or (option_map Change (edit_of version w ws)) (option_map Question (query_of w ws))) (Some (Question q)) e) [
      | inl p ↦ (let lie : Some Silent ≡ Some (Question q) = p.1 in cc)
      | inr p ↦ by (edit_of version w ws) p.1
    ]
  where
    asked : (o : Option Query) → query_of w ws ≡ o → option_map Question o ≡ Some (Question q) → Reads version (w ∷ ws) (Question q)
    asked None is h = cc
    asked (Some found) is h =
        let same : found ≡ q = cc in
        let (spelt, bare) = query_of-sound w ws q (is ∙ ap (λ (x : Query). Some x) same) in
        (spelt, well_formed_query q bare)

    by : (o : Option Edit) → option_or (option_map Change o) (option_map Question (query_of w ws)) ≡ Some (Question q) → Reads version (w ∷ ws) (Question q)
    by None h = asked (query_of w ws) refl h
    by (Some edit) h = cc

found_read : (version : Version) (ws : List (List ℕ)) (l : Line) → line_of version ws ≡ Some l → Reads version ws l
found_read version ws Silent e = line_of-sound version ws Silent e
found_read version ws (Change edit) e = line_of-sound version ws (Change edit) e
found_read version ws (Question q) e = question_read version ws q e

-- ---- causes are told

-- a refusal that tells the cause
abbrev Telling : Cause → Type 0
Telling c = (refusal : Refusal) × (told_cause refusal ≡ Some c)

telling : (c : Cause) → Telling c
telling out_of_form = (Form, refl)
telling (taken word) = (Taken (Declared (Begin word)), refl)
telling (unknown word) = (Unknown (Declared (Begin word)), refl)
telling (ill_sorted word) = (IllSorted (Declared (Begin word)), refl)
telling too_many_premises = (LimitPremises, refl)
telling too_many_points = (LimitPoints, refl)

tells : (o : Option Cause) (c : Cause) (refusal : Refusal) → o ≡ Some c → told_cause refusal ≡ Some c → Tells refusal o
tells o c refusal is told = (subst IsSome (sym is) refl, told ∙ sym is)

-- some cause is none that is not told
no_cause_told : (o : Option Cause) → IsSome o × (None ≡ o) → ⊥
no_cause_told None t = let lie : false ≡ true = t.0 in cc
no_cause_told (Some c) t = let lie : None ≡ Some c = t.1 in cc

-- a refusal that tells a cause is one for that cause
refuses : (old : Standing) (edit : Edit) (refusal : Refusal) → Tells refusal (list_cause old edit) → RefusesEdit old edit refusal
refuses old edit LimitLine t = t
refuses old edit Form t = t
refuses old edit (Taken word) t = t
refuses old edit (Unknown word) t = t
refuses old edit (IllSorted word) t = t
refuses old edit LimitPremises t = t
refuses old edit LimitPoints t = t
refuses old edit (Cycle sum steps) t = absurd (no_cause_told (list_cause old edit) t)
refuses old edit LimitSize t = absurd (no_cause_told (list_cause old edit) t)

-- ---- an edit

edit_answered : (old : Standing) → IsKept old → (edit : Edit) → IsWellFormedEdit edit → IsEditOf old.version edit → (reply : Reply) × (new : Standing) × AnswersEdit old edit reply new
edit_answered old kept edit formed versioned = by (list_cause old edit) refl
  where
    sized : list_cause old edit ≡ None → IsConsistent (next_list old edit).premises → (reply : Reply) × (new : Standing) × AnswersEdit old edit reply new
    sized none dates = elim (cases_lt most_size (size (built (next_list old edit)))) [
      | inl large ↦ (Refused LimitSize, old, (record { no_cause = none; dates = dates; large = large }, refl))
      | inr small ↦ (
          let accepted : IsAccepted old edit = record { no_cause = none; dates = dates; small = small } in
          let sound = (stays_kept old edit kept formed versioned accepted).sound in
          let (made, is) = changes_said (built old) (built (next_list old edit)) (tells_occs old kept.sound) (tells_occs (next_list old edit) sound) in
          (Accepted made, next_list old edit, (accepted, is, refl)))
    ]

    dated : list_cause old edit ≡ None → (reply : Reply) × (new : Standing) × AnswersEdit old edit reply new
    dated none = elim (dates_or_cycle old kept.sound edit formed none) [
      | inl dates ↦ sized none dates
      | inr cycle ↦ (Refused (Cycle cycle.0 (record { items = cycle.1; room = 0 })), old, (cycle.2, refl))
    ]

    by : (o : Option Cause) → list_cause old edit ≡ o → (reply : Reply) × (new : Standing) × AnswersEdit old edit reply new
    by None is = dated is
    by (Some c) is = let (refusal, told) = telling c in (Refused refusal, old, (refuses old edit refusal (tells (list_cause old edit) c refusal is told), refl))

-- ---- a question

lookup-In : {K X : Type 0} (test : K → Bool) (ds : List (K × X)) (x : X) → lookup test ds ≡ Some x → (k : K) × In (k, x) ds × (test k ≡ true)
lookup-In test [] x e = cc
lookup-In {K} {X} test (d ∷ ds) x e = by (test d.0) refl (lookup-In test ds x) e
  where
    by : (b : Bool) → test d.0 ≡ b → (lookup test ds ≡ Some x → (k : K) × In (k, x) ds × (test k ≡ true)) → cond b (Some d.1) (lookup test ds) ≡ Some x → (k : K) × In (k, x) (d ∷ ds) × (test k ≡ true)
    by true is again e = let same : d.1 ≡ x = cc in (d.0, inl (λ i. (d.0, same i)), is)
    by false is again e = let (k, at, passes) = again e in (k, inr at, passes)

only : (d : List ℕ × Sort) (name : List ℕ) (sort : Sort) → In (name, sort) (d ∷ []) → (d.0 ≡ name) × (d.1 ≡ sort)
only d name sort (inl e) = (ap (λ x. x.0) e, ap (λ x. x.1) e)
only d name sort (inr at) = absurd at

-- what is declared as an event, a token or a span is a root
root_here : (p : Premise) (name : List ℕ) (sort : Sort) → In (name, sort) (declarations_of p) → is_root sort ≡ true → root_of p ≡ Some (At (Begin name))
root_here (Event k kind) name sort at e = ap (λ n. Some (At (Begin n))) (only (k, an_event) name sort at).0
root_here (Token k g) name sort at e = ap (λ n. Some (At (Begin n))) (only (k, a_token) name sort at).0
root_here (Span k g) name sort at e = ap (λ n. Some (At (Begin n))) (only (k, a_span) name sort at).0
root_here (Kind k) name sort at e = let w : false ≡ true = ap is_root (only (k, a_kind) name sort at).1 ∙ e in cc
root_here (Point k) name sort at e = let w : false ≡ true = ap is_root (only (k, a_point) name sort at).1 ∙ e in cc
root_here (Dist k from to lo hi) name sort at e = let w : false ≡ true = ap is_root (only (k, a_dist) name sort at).1 ∙ e in cc
root_here (Rule k trigger lo hi effect given unless_facts) name sort at e = let w : false ≡ true = ap is_root (only (k, a_rule) name sort at).1 ∙ e in cc
root_here (Protect k g from to) name sort at e = let w : false ≡ true = ap is_root (only (k, a_protection) name sort at).1 ∙ e in cc
root_here (Against k one other) name sort at e = let w : false ≡ true = ap is_root (only (k, a_rivalry) name sort at).1 ∙ e in cc
root_here (Class k facts) name sort (inl q) e = let w : false ≡ true = ap (λ d. is_root d.1) q ∙ e in cc
root_here (Class k facts) name sort (inr at) e =
    let (g, there, q) = In-map fact_declaration facts.items (name, sort) at in
    let w : false ≡ true = ap (λ d. is_root d.1) q ∙ e in
    cc

root_of_sort : (s : Standing) (name : List ℕ) (sort : Sort) → sort_in s.premises name ≡ Some sort → is_root sort ≡ true → Contains (roots s) (At (Begin name))
root_of_sort s name sort is e =
    let (word, at, same) = lookup-In (same_name name) (declarations_in s.premises) sort is in
    let (p, there, here) = In-flat_map declarations_of s.premises (word, sort) at in
    subst (λ w. Contains (roots s) (At (Begin w))) (sym (same_name-is name word same))
    (Contains-from_In (roots s) (At (Begin word)) (filter_map-In root_of s.premises p (At (Begin word)) there (root_here p word sort here e)))

-- a word with no cause against it as a root is one
rooted : (s : Standing) (name : List ℕ) → name_cause (sort_in s.premises name) name is_root ≡ None → Contains (roots s) (At (Begin name))
rooted s name none = by (sort_in s.premises name) refl none
  where
    sorted_as : (sort : Sort) → sort_in s.premises name ≡ Some sort → (b : Bool) → is_root sort ≡ b
        → elim b as (λ _. Option Cause) [ true ↦ None | false ↦ Some (ill_sorted name) ] ≡ None → Contains (roots s) (At (Begin name))
    sorted_as sort is true root e = root_of_sort s name sort is root
    sorted_as sort is false root e = cc

    unsorted : (b : Bool) → elim b as (λ _. Option Cause) [ true ↦ Some (ill_sorted name) | false ↦ Some (unknown name) ] ≡ None → Contains (roots s) (At (Begin name))
    unsorted true e = cc
    unsorted false e = cc

    by : (o : Option Sort) → sort_in s.premises name ≡ o → name_cause o name is_root ≡ None → Contains (roots s) (At (Begin name))
    by None is e = unsorted (same_name name (codes "start")) e
    by (Some sort) is e = sorted_as sort is (is_root sort) refl e

-- an occurrence with no cause against its reasons is believed
believed_here : (s : Standing) → IsSound s → (o : Occ) → query_cause (built s) (Why o) ≡ None → Contains (built s).believed (moment_of o)
believed_here s sound o none = by o.rules.items refl none
  where
    derived : (b : Bool) → is_believed (built s) (moment_of o) ≡ b → elim b as (λ _. Option Cause) [ true ↦ None | false ↦ Some (unknown (occ_word o)) ] ≡ None → Contains (built s).believed (moment_of o)
    derived true is e = among (built s).believed (moment_of o) is
    derived false is e = cc

    by : (rules : List (List ℕ)) → o.rules.items ≡ rules → why_cause (built s) o rules ≡ None → Contains (built s).believed (moment_of o)
    by [] is e =
        subst (λ rs. Contains (built s).believed (along (At (Begin o.root)) rs)) (sym is)
        ((believed_right s sound (At (Begin o.root))).1 (rooted s o.root e))
    by (r ∷ rules) is e = derived (is_believed (built s) (moment_of o)) refl e

query_answered : (old : Standing) → IsKept old → (query : Query) → (reply : Reply) × AnswersQuery old query reply
query_answered old kept query = by (query_cause (built old) query) refl
  where
    answered : (query : Query) → query_cause (built old) query ≡ None → (reply : Reply) × AnswersQuery old query reply
    answered (Bounds p q) is = (BoundsAre (bound_negated (gap (built old) (moment_of_point q) (moment_of_point p))) (gap (built old) (moment_of_point p) (moment_of_point q)), (is, (refl, refl)))
    answered (Path p q) is =
        let (steps, gives) = gives_path old kept.sound (moment_of_point p) (moment_of_point q) in
        (PathIs (gap (built old) (moment_of_point p) (moment_of_point q)) steps, (is, gives))
    answered (Ask fact p q) is =
        let (answer, says) = ask_said (built old) (tells_occs old kept.sound) fact (moment_of_point p) (moment_of_point q) in
        (Answered answer, (is, says))
    answered (Why o) is =
        let (lines, why) = why_said old kept.sound (moment_of o) (believed_here old kept.sound o is) in
        (Reasons lines, (is, why))
    answered Check is = let (reports, are) = reports_said (built old) (tells_occs old kept.sound) in (BrokenAre reports, (is, are))
    answered Listing is = let (rows, are) = rows_said (built old) (tells_occs old kept.sound) in (Believed rows, (is, are))
    answered Dump is = (DumpIs old.version old.horizon (map shown_text old.premises), (is, (refl, refl, refl)))
    answered Audit is = (AuditYes, (is, tt))
    answered Size is = (SizeIs (size (built old)), (is, refl))

    by : (o : Option Cause) → query_cause (built old) query ≡ o → (reply : Reply) × AnswersQuery old query reply
    by None is = answered query is
    by (Some c) is = let (refusal, told) = telling c in (Refused refusal, tells (query_cause (built old) query) c refusal is told)

-- ---- a line

-- some turn that is no want of memory
abbrev IsAnswered : Standing → ℕ → List ℕ → Type 0
IsAnswered old k line = (turn : Turn) × (new : Standing) × Step old k line turn new × (is_memory turn ≡ false)

replied : (old : Standing) (k : ℕ) (line : List ℕ) (reply : Reply) (new : Standing) → LineAnswers old line reply new → IsAnswered old k line
replied old k line reply new answers = (ReplyOf (record { items = text_of k reply; room = 0 }) (is_refusal reply), new, (reply, answers, refl, refl), refl)

meant : (old : Standing) → IsKept old → (k : ℕ) (line : List ℕ) → length line ≤ most_bytes → (meaning : Line) → ReadsLine old.version line meaning → IsAnswered old k line
meant old kept k line short Silent reads = (NoReply, old, (record { short = short; reads = reads }, refl), refl)
meant old kept k line short (Change edit) reads =
    let (reply, new, answers) = edit_answered old kept edit reads.1 reads.2 in
    replied old k line reply new (for_meaning (Change edit) (record { short = short; reads = reads }) answers)
meant old kept k line short (Question query) reads =
    let (reply, answers) = query_answered old kept query in
    replied old k line reply old (for_meaning (Question query) (record { short = short; reads = reads }) (answers, refl))

pub lines_are_answered : LinesAreAnswered
lines_are_answered old kept k line = elim (cases_lt most_bytes (length line)) [
  | inl long ↦ replied old k line (Refused LimitLine) old (for_length long refl refl)
  | inr short ↦ by short (line_of old.version (words line)) refl
]
  where
    by : length line ≤ most_bytes → (o : Option Line) → line_of old.version (words line) ≡ o → IsAnswered old k line
    by short None is = replied old k line (Refused Form) old (for_form short (λ meaning reads. line_of-none old.version (words line) meaning is reads) refl refl)
    by short (Some meaning) is = meant old kept k line short meaning (found_read old.version (words line) meaning is)

-- ---- a script

none_so_far : (turn : Turn) (turns : List Turn) → is_memory turn ≡ false → list_any is_memory turns ≡ false → list_any is_memory (turn ∷ turns) ≡ false
none_so_far turn turns one rest = (λ i. one i || list_any is_memory turns) ∙ rest

answered_from : (lines : List (List ℕ)) (old : Standing) (k : ℕ) → IsKept old → (turns : List Turn) × (end : Standing) × Run Step old k lines turns end × (list_any is_memory turns ≡ false)
answered_from [] old k kept = ([], old, refl, refl)
answered_from (line ∷ lines) old k kept =
    let (turn, mid, step, one) = lines_are_answered old kept (k + 1) line in
    let (turns, end, run, rest) = answered_from lines mid (k + 1) (step_keeps old mid (k + 1) line turn kept step) in
    (turn ∷ turns, end, (mid, step, run), none_so_far turn turns one rest)

pub scripts_are_answered : ScriptsAreAnswered
scripts_are_answered lines = answered_from lines empty_list 0 empty_is_kept
