-- The reply to a line is one text, but for want of memory and the choice among walks.
use Rattle.std.proofs.Common.{◌≡◌, ◌∙◌, ℕ, Bool, true, false, List, [], ◌∷◌, ◌++◌, map, length, refl, sym, ap, subst, arith}
use Rattle.std.proofs.lemmas.List.{length-map}
use Rattle.std.specs.Prelude.{codes, decimal, Option, Some, None, IsSome}
use Rattle.std.specs.Fmt.{signed_decimal}
use Rattle.std.specs.List.{flat_map}
use Rattle.std.specs.Option.{option_map, option_or}
use Rattle.tmm_model.specs.declared.answer.Answer.{Answer}
use Rattle.tmm_model.specs.declared.answer.Answer.TheVariants.{Yes, No, Unordered}
use Rattle.tmm_model.specs.declared.answer.Blame.{Blame}
use Rattle.tmm_model.specs.declared.answer.Cause.{Cause as Why_not}
use Rattle.tmm_model.specs.declared.answer.Cause.TheVariants.{Late, Clipped, Ends}
use Rattle.tmm_model.specs.declared.answer.Report.{Report}
use Rattle.tmm_model.specs.declared.bound.Bound.{Bound}
use Rattle.tmm_model.specs.declared.changes.Changes.{Changes}
use Rattle.tmm_model.specs.declared.changes.Clip.{Clip}
use Rattle.tmm_model.specs.declared.changes.ListRow.{ListRow}
use Rattle.tmm_model.specs.declared.line.Line.{Line}
use Rattle.tmm_model.specs.declared.line.Line.TheVariants.{Silent, Change, Question}
use Rattle.tmm_model.specs.declared.line.Query.{Query}
use Rattle.tmm_model.specs.declared.line.Query.TheVariants.{Bounds, Path, Ask, Why, Check, List as Listing, Dump, Audit, Size}
use Rattle.tmm_model.specs.declared.point.Occ.{Occ}
use Rattle.tmm_model.specs.declared.point.QueryPoint.{QueryPoint}
use Rattle.tmm_model.specs.declared.point.QueryPoint.TheVariants.{Declared, Derived}
use Rattle.tmm_model.specs.declared.premise.Edit.{Edit}
use Rattle.tmm_model.specs.declared.refusal.Refusal.{Refusal}
use Rattle.tmm_model.specs.declared.refusal.Refusal.TheVariants.{LimitLine, Form, Taken, Unknown, Sort, LimitPremises, LimitPoints, Cycle, LimitSize}
use Rattle.tmm_model.specs.Answers.{Fault, late, clipped, ends, Finding, holds, fails, unordered, Row, ask, reports, rows, size, fault_of, blame_of, finding_of, report_of, row_of}
use Rattle.tmm_model.specs.Bounds.{bound_negated}
use Rattle.tmm_model.specs.Changes.{Delta, changes, clip_pair, delta_of}
use Rattle.tmm_model.specs.Edits.{next_list}
use Rattle.tmm_model.specs.Kept.{IsAccepted}
use Rattle.tmm_model.specs.Lines.{words, shown_text, ReadsLine}
use Rattle.tmm_grammar.specs.Bare.{bare_line, bare_query, bare_point}
use Rattle.tmm_model.specs.Maps.{TimeMap, built, gap}
use Rattle.tmm_model.specs.Moments.{Moment, printed, moment_of, moment_of_point}
use Rattle.tmm_model.specs.Points.{occ_word, query_word}
use Rattle.tmm_model.specs.Questions.{point_cause, query_cause}
use Rattle.tmm_model.specs.Replies.{Reply, Accepted, Refused, BoundsAre, PathIs, Answered, Reasons, BrokenAre, Believed, DumpIs, AuditYes, SizeIs, text_of, line_of, opening_lines, head_line, two, four, bound_word, cause_words, blame_line, more_line, blame_lines, answer_words, unordered_words, report_lines, name_line, occ_line, clip_line, change_lines, clip_words, row_line}
use Rattle.tmm_model.specs.Sorts.{is_fact, sort_in}
use Rattle.tmm_model.specs.Standing.{Standing, IsConsistent}
use Rattle.tmm_model.specs.Transcript.{AnswersEdit, AnswersQuery, AnswersLine, RefusesEdit, LineAnswers, for_length, for_form, for_meaning}
use Rattle.tmm_model.specs.declared.version.Version.{Version}
use Rattle.tmm_model.specs.Verdicts.{Cause, out_of_form, taken, unknown, ill_sorted, too_many_premises, too_many_points, list_cause, name_cause, Tells}
use Rattle.tmm_grammar.proofs.LineForms.{one_reading}
use Rattle.belief_theory.proofs.Moments.{printed-moment_of}
use Rattle.tmm_laws.specs.OneText.{shows_walk}
use Rattle.tmm_laws.proofs.DumpRuns.{one_verdict, edit_in, no_lie}

-- ---- what a reply says, but for rooms of lists and for walks

data Said : Type 0 where
  made : Delta → Said
  caused : Cause → Said
  too_long : Said
  looped : Said
  oversized : Said
  bounded : Bound → Bound → Said
  walked : Said
  found : Finding → Said
  reasoned : Said
  broken : List (List ℕ × Finding) → Said
  listed : List Row → Said
  dumped : Version → ℕ → List (List ℕ) → Said
  audited : Said
  sized : ℕ → Said

abbrev said_no : Refusal → Said
said_no LimitLine = too_long
said_no Form = caused out_of_form
said_no (Taken word) = caused (taken (query_word word))
said_no (Unknown word) = caused (unknown (query_word word))
said_no (Sort word) = caused (ill_sorted (query_word word))
said_no LimitPremises = caused too_many_premises
said_no LimitPoints = caused too_many_points
said_no (Cycle sum steps) = looped
said_no LimitSize = oversized

abbrev said : Reply → Said
said (Accepted told) = made (delta_of told)
said (Refused refusal) = said_no refusal
said (BoundsAre lo hi) = bounded lo hi
said (PathIs far steps) = walked
said (Answered answer) = found (finding_of answer)
said (Reasons lines) = reasoned
said (BrokenAre rs) = broken (map report_of rs)
said (Believed rs) = listed (map row_of rs)
said (DumpIs version horizon premises) = dumped version horizon premises
said AuditYes = audited
said (SizeIs n) = sized n

-- ---- its text

abbrev fault_words : Fault → List (List ℕ)
fault_words late = codes "late" ∷ []
fault_words (clipped c) = codes "clipped" ∷ printed c ∷ []
fault_words ends = codes "ends" ∷ []

abbrev fault_line : List ℕ → Moment × Fault → List ℕ
fault_line indent b = line_of indent (printed b.0 ∷ fault_words b.1)

abbrev finding_lines : List ℕ → Finding → List ℕ
finding_lines indent (holds k) = []
finding_lines indent (fails bs more) = flat_map (fault_line indent) bs ++ more_line indent more
finding_lines indent unordered = []

abbrev finding_words : Finding → List (List ℕ)
finding_words (holds k) = codes "yes" ∷ printed k ∷ []
finding_words (fails bs more) = codes "no" ∷ []
finding_words unordered = codes "no" ∷ codes "unordered" ∷ []

abbrev loose_words : Finding → List (List ℕ)
loose_words (holds k) = []
loose_words (fails bs more) = []
loose_words unordered = codes "unordered" ∷ []

abbrev report_text : List ℕ × Finding → List ℕ
report_text r = line_of two (codes "broken" ∷ r.0 ∷ loose_words r.1) ++ finding_lines four r.1

abbrev moment_line : List ℕ → Moment → List ℕ
moment_line word m = line_of two (word ∷ printed m ∷ [])

abbrev pair_line : Moment × Moment → List ℕ
pair_line p = line_of two (codes "clip" ∷ printed p.0 ∷ codes "by" ∷ printed p.1 ∷ [])

abbrev delta_text : Delta → List ℕ
delta_text d =
    flat_map (name_line (codes "erased")) d.erased
    ++ flat_map (moment_line (codes "out")) d.left
    ++ flat_map (moment_line (codes "in")) d.entered
    ++ flat_map (moment_line (codes "loose")) d.loose
    ++ flat_map pair_line d.clips
    ++ flat_map report_text d.broken
    ++ flat_map (name_line (codes "mended")) d.mended

abbrev clip_text : Option Moment → List (List ℕ)
clip_text None = []
clip_text (Some c) = codes "clip" ∷ printed c ∷ []

abbrev row_text : Row → List ℕ
row_text r = line_of two (signed_decimal r.date ∷ printed r.occ ∷ r.what ∷ clip_text r.clip)

abbrev cause_text : Cause → List (List ℕ)
cause_text out_of_form = codes "form" ∷ []
cause_text (taken w) = codes "taken" ∷ w ∷ []
cause_text (unknown w) = codes "unknown" ∷ w ∷ []
cause_text (ill_sorted w) = codes "sort" ∷ w ∷ []
cause_text too_many_premises = codes "limit" ∷ codes "premises" ∷ []
cause_text too_many_points = codes "limit" ∷ codes "points" ∷ []

abbrev said_text : ℕ → Said → List ℕ
said_text k (made d) = head_line k (codes "ok" ∷ []) ++ delta_text d
said_text k (caused c) = head_line k (codes "no" ∷ cause_text c) ++ []
said_text k too_long = head_line k (codes "no" ∷ codes "limit" ∷ codes "line" ∷ []) ++ []
said_text k looped = []
said_text k oversized = head_line k (codes "no" ∷ codes "limit" ∷ codes "size" ∷ []) ++ []
said_text k (bounded lo hi) = head_line k (codes "bounds" ∷ bound_word lo ∷ bound_word hi ∷ [])
said_text k walked = []
said_text k (found f) = head_line k (finding_words f) ++ finding_lines two f
said_text k reasoned = []
said_text k (broken rs) = head_line k (codes "check" ∷ decimal (length rs) ∷ []) ++ flat_map report_text rs
said_text k (listed rs) = head_line k (codes "list" ∷ decimal (length rs) ∷ []) ++ flat_map row_text rs
said_text k (dumped version horizon premises) =
    head_line k (codes "dump" ∷ decimal (length premises) ∷ [])
    ++ opening_lines version horizon
    ++ flat_map (λ premise. line_of two (premise ∷ [])) premises
said_text k audited = head_line k (codes "audit" ∷ codes "yes" ∷ [])
said_text k (sized n) = head_line k (codes "size" ∷ decimal n ∷ [])

same_flat : {A B : Type 0} (f : A → List ℕ) (g : B → List ℕ) (v : A → B) → ((x : A) → f x ≡ g (v x)) → (xs : List A) → flat_map f xs ≡ flat_map g (map v xs)
same_flat f g v same [] = refl
same_flat f g v same (x ∷ xs) = λ i. same x i ++ same_flat f g v same xs i

occ_said : (o : Occ) → occ_word o ≡ printed (moment_of o)
occ_said o = sym (printed-moment_of o)

cause_said : (c : Why_not) → cause_words c ≡ fault_words (fault_of c)
cause_said Late = refl
cause_said (Clipped by) = λ i. codes "clipped" ∷ occ_said by i ∷ []
cause_said Ends = refl

blame_said : (indent : List ℕ) (b : Blame) → blame_line indent b ≡ fault_line indent (blame_of b)
blame_said indent b = λ i. line_of indent (occ_said b.token i ∷ cause_said b.cause i)

lines_said : (indent : List ℕ) (a : Answer) → blame_lines indent a ≡ finding_lines indent (finding_of a)
lines_said indent (Yes k) = refl
lines_said indent (No blames more) = ap (λ l. l ++ more_line indent more) (same_flat (blame_line indent) (fault_line indent) blame_of (blame_said indent) blames.items)
lines_said indent Unordered = refl

words_said : (a : Answer) → answer_words a ≡ finding_words (finding_of a)
words_said (Yes k) = λ i. codes "yes" ∷ occ_said k i ∷ []
words_said (No blames more) = refl
words_said Unordered = refl

loose_said : (a : Answer) → unordered_words a ≡ loose_words (finding_of a)
loose_said (Yes k) = refl
loose_said (No blames more) = refl
loose_said Unordered = refl

report_said : (r : Report) → report_lines r ≡ report_text (report_of r)
report_said r = λ i. line_of two (codes "broken" ∷ r.name ∷ loose_said r.answer i) ++ lines_said four r.answer i

moment_said : (word : List ℕ) (o : Occ) → occ_line word o ≡ moment_line word (moment_of o)
moment_said word o = λ i. line_of two (word ∷ occ_said o i ∷ [])

pair_said : (c : Clip) → clip_line c ≡ pair_line (clip_pair c)
pair_said c = λ i. line_of two (codes "clip" ∷ occ_said c.token i ∷ codes "by" ∷ occ_said c.by i ∷ [])

clip_said : (c : Option Occ) → clip_words c ≡ clip_text (option_map moment_of c)
clip_said None = refl
clip_said (Some by) = λ i. codes "clip" ∷ occ_said by i ∷ []

row_said : (r : ListRow) → row_line r ≡ row_text (row_of r)
row_said r = λ i. line_of two (signed_decimal r.early ∷ occ_said r.occ i ∷ r.what ∷ clip_said r.clip i)

changes_said : (c : Changes) → change_lines c ≡ delta_text (delta_of c)
changes_said c = λ i.
    flat_map (name_line (codes "erased")) c.erased.items
    ++ same_flat (occ_line (codes "out")) (moment_line (codes "out")) moment_of (moment_said (codes "out")) c.left.items i
    ++ same_flat (occ_line (codes "in")) (moment_line (codes "in")) moment_of (moment_said (codes "in")) c.entered.items i
    ++ same_flat (occ_line (codes "loose")) (moment_line (codes "loose")) moment_of (moment_said (codes "loose")) c.loose.items i
    ++ same_flat clip_line pair_line clip_pair pair_said c.clips.items i
    ++ same_flat report_lines report_text report_of report_said c.broken.items i
    ++ flat_map (name_line (codes "mended")) c.mended.items

no_lie_at : {P : Type 0} → false ≡ true → P
no_lie_at {P} e = no_lie P (sym e)

text_said : (k : ℕ) (r : Reply) → shows_walk r ≡ false → text_of k r ≡ said_text k (said r)
text_said k (Accepted told) plain = ap (λ l. head_line k (codes "ok" ∷ []) ++ l) (changes_said told)
text_said k (Refused LimitLine) plain = refl
text_said k (Refused Form) plain = refl
text_said k (Refused (Taken word)) plain = refl
text_said k (Refused (Unknown word)) plain = refl
text_said k (Refused (Sort word)) plain = refl
text_said k (Refused LimitPremises) plain = refl
text_said k (Refused LimitPoints) plain = refl
text_said k (Refused (Cycle sum steps)) plain = no_lie (text_of k (Refused (Cycle sum steps)) ≡ []) plain
text_said k (Refused LimitSize) plain = refl
text_said k (BoundsAre lo hi) plain = refl
text_said k (PathIs far steps) plain = no_lie (text_of k (PathIs far steps) ≡ []) plain
text_said k (Answered answer) plain = λ i. head_line k (words_said answer i) ++ lines_said two answer i
text_said k (Reasons lines) plain = no_lie (text_of k (Reasons lines) ≡ []) plain
text_said k (BrokenAre rs) plain =
    let count : length rs ≡ length (map report_of rs) = sym (length-map rs report_of) in
    λ i. head_line k (codes "check" ∷ decimal (count i) ∷ []) ++ same_flat report_lines report_text report_of report_said rs i
text_said k (Believed rs) plain =
    let count : length rs ≡ length (map row_of rs) = sym (length-map rs row_of) in
    λ i. head_line k (codes "list" ∷ decimal (count i) ∷ []) ++ same_flat row_line row_text row_of row_said rs i
text_said k (DumpIs version horizon premises) plain = refl
text_said k AuditYes plain = refl
text_said k (SizeIs n) plain = refl

-- whether what is said shows a walk
abbrev shows : Said → Bool
shows looped = true
shows walked = true
shows reasoned = true
shows (made d) = false
shows (caused c) = false
shows too_long = false
shows oversized = false
shows (bounded lo hi) = false
shows (found f) = false
shows (broken rs) = false
shows (listed rs) = false
shows (dumped version horizon premises) = false
shows audited = false
shows (sized n) = false

shows_said : (r : Reply) → shows_walk r ≡ shows (said r)
shows_said (Accepted told) = refl
shows_said (Refused LimitLine) = refl
shows_said (Refused Form) = refl
shows_said (Refused (Taken word)) = refl
shows_said (Refused (Unknown word)) = refl
shows_said (Refused (Sort word)) = refl
shows_said (Refused LimitPremises) = refl
shows_said (Refused LimitPoints) = refl
shows_said (Refused (Cycle sum steps)) = refl
shows_said (Refused LimitSize) = refl
shows_said (BoundsAre lo hi) = refl
shows_said (PathIs hi steps) = refl
shows_said (Answered answer) = refl
shows_said (Reasons lines) = refl
shows_said (BrokenAre rs) = refl
shows_said (Believed rs) = refl
shows_said (DumpIs version horizon premises) = refl
shows_said AuditYes = refl
shows_said (SizeIs n) = refl

-- ---- edits

-- why an edit is refused, and what is said of it
data IsNo (old : Standing) (edit : Edit) (r : Refusal) : Type 0 where
  for_cause : (c : Cause) → list_cause old edit ≡ Some c → said_no r ≡ caused c → IsNo old edit r
  for_cycle : list_cause old edit ≡ None → (IsConsistent (next_list old edit).premises → ⊥) → said_no r ≡ looped → IsNo old edit r
  for_size : list_cause old edit ≡ None → IsConsistent (next_list old edit).premises → said_no r ≡ oversized → IsNo old edit r

why_no : (old : Standing) (edit : Edit) (r : Refusal) → RefusesEdit old edit r → IsNo old edit r
why_no old edit (Cycle sum steps) is = for_cycle is.no_cause is.no_dates refl
why_no old edit LimitSize is = for_size is.no_cause is.dates refl
why_no old edit LimitLine (some, told) = no_lie_at (subst IsSome (sym told) some)
why_no old edit Form (some, told) = for_cause out_of_form (sym told) refl
why_no old edit (Taken word) (some, told) = for_cause (taken (query_word word)) (sym told) refl
why_no old edit (Unknown word) (some, told) = for_cause (unknown (query_word word)) (sym told) refl
why_no old edit (Sort word) (some, told) = for_cause (ill_sorted (query_word word)) (sym told) refl
why_no old edit LimitPremises (some, told) = for_cause too_many_premises (sym told) refl
why_no old edit LimitPoints (some, told) = for_cause too_many_points (sym told) refl

abbrev cause_or : Option Cause → Cause → Cause
cause_or (Some c) d = c
cause_or None d = d

one_cause : (x : Option Cause) (c d : Cause) → x ≡ Some c → x ≡ Some d → c ≡ d
one_cause x c d e f = ap (λ o. cause_or o c) (sym e ∙ f)

some_none : (P : Type 0) (x : Option Cause) (c : Cause) → x ≡ Some c → x ≡ None → P
some_none P x c e f = absurd (no_lie ⊥ (sym (subst IsSome (sym e ∙ f) refl)))

noes_agree : (old : Standing) (edit : Edit) (r s : Refusal) → IsNo old edit r → IsNo old edit s → said_no r ≡ said_no s
noes_agree old edit r s (for_cause c e is) (for_cause d f is_2) = is ∙ ap caused (one_cause (list_cause old edit) c d e f) ∙ sym is_2
noes_agree old edit r s (for_cause c e is) (for_cycle none no_dates is_2) = some_none (said_no r ≡ said_no s) (list_cause old edit) c e none
noes_agree old edit r s (for_cause c e is) (for_size none dates is_2) = some_none (said_no r ≡ said_no s) (list_cause old edit) c e none
noes_agree old edit r s (for_cycle none no_dates is) (for_cause d f is_2) = some_none (said_no r ≡ said_no s) (list_cause old edit) d f none
noes_agree old edit r s (for_cycle none no_dates is) (for_cycle _ _ is_2) = is ∙ sym is_2
noes_agree old edit r s (for_cycle none no_dates is) (for_size _ dates is_2) = absurd (no_dates dates)
noes_agree old edit r s (for_size none dates is) (for_cause d f is_2) = some_none (said_no r ≡ said_no s) (list_cause old edit) d f none
noes_agree old edit r s (for_size none dates is) (for_cycle _ no_dates is_2) = absurd (no_dates dates)
noes_agree old edit r s (for_size none dates is) (for_size _ _ is_2) = is ∙ sym is_2

-- how an edit is answered
data IsVerdict (old : Standing) (edit : Edit) (reply : Reply) : Type 0 where
  yes : IsAccepted old edit → said reply ≡ made (changes old (next_list old edit)) → IsVerdict old edit reply
  no : (r : Refusal) → RefusesEdit old edit r → said reply ≡ said_no r → IsVerdict old edit reply

edit_verdict : (old new : Standing) (edit : Edit) (reply : Reply) → AnswersEdit old edit reply new → IsVerdict old edit reply
edit_verdict old new edit (Accepted told) (a, is, next) = yes a (ap made (is ∙ ap (changes old) next))
edit_verdict old new edit (Refused refusal) (r, same) = no refusal r refl
edit_verdict old new edit (BoundsAre lo hi) never = absurd never
edit_verdict old new edit (PathIs hi steps) never = absurd never
edit_verdict old new edit (Answered answer) never = absurd never
edit_verdict old new edit (Reasons lines) never = absurd never
edit_verdict old new edit (BrokenAre rs) never = absurd never
edit_verdict old new edit (Believed rs) never = absurd never
edit_verdict old new edit (DumpIs version horizon premises) never = absurd never
edit_verdict old new edit AuditYes never = absurd never
edit_verdict old new edit (SizeIs n) never = absurd never

verdicts_agree : (old : Standing) (edit : Edit) (a b : Reply) → IsVerdict old edit a → IsVerdict old edit b → said a ≡ said b
verdicts_agree old edit a b (yes _ is) (yes _ is_2) = is ∙ sym is_2
verdicts_agree old edit a b (yes accepted is) (no r refuses is_2) = absurd (one_verdict old edit r accepted refuses)
verdicts_agree old edit a b (no r refuses is) (yes accepted is_2) = absurd (one_verdict old edit r accepted refuses)
verdicts_agree old edit a b (no r refuses is) (no s refuses_2 is_2) = is ∙ noes_agree old edit r s (why_no old edit r refuses) (why_no old edit s refuses_2) ∙ sym is_2

-- ---- questions

-- what a map says to a question
abbrev answered : TimeMap → Query → Said
answered m (Bounds p q) = bounded (bound_negated (gap m (moment_of_point q) (moment_of_point p))) (gap m (moment_of_point p) (moment_of_point q))
answered m (Path p q) = walked
answered m (Ask fact p q) = found (ask m fact (moment_of_point p) (moment_of_point q))
answered m (Why o) = reasoned
answered m Check = broken (reports m)
answered m Listing = listed (rows m)
answered m Dump = dumped m.list.version m.list.horizon (map shown_text m.list.premises)
answered m Audit = audited
answered m Size = sized (size m)

-- how a question is answered
data IsAnswer (old : Standing) (query : Query) (reply : Reply) : Type 0 where
  for_word : (c : Cause) → query_cause (built old) query ≡ Some c → said reply ≡ caused c → IsAnswer old query reply
  plainly : query_cause (built old) query ≡ None → said reply ≡ answered (built old) query → IsAnswer old query reply

refused_word : (old : Standing) (query : Query) (r : Refusal) → Tells r (query_cause (built old) query) → IsAnswer old query (Refused r)
refused_word old query (Cycle sum steps) (some, told) = no_lie_at (subst IsSome (sym told) some)
refused_word old query LimitSize (some, told) = no_lie_at (subst IsSome (sym told) some)
refused_word old query LimitLine (some, told) = no_lie_at (subst IsSome (sym told) some)
refused_word old query Form (some, told) = for_word out_of_form (sym told) refl
refused_word old query (Taken word) (some, told) = for_word (taken (query_word word)) (sym told) refl
refused_word old query (Unknown word) (some, told) = for_word (unknown (query_word word)) (sym told) refl
refused_word old query (Sort word) (some, told) = for_word (ill_sorted (query_word word)) (sym told) refl
refused_word old query LimitPremises (some, told) = for_word too_many_premises (sym told) refl
refused_word old query LimitPoints (some, told) = for_word too_many_points (sym told) refl

query_answer : (old : Standing) (query : Query) (reply : Reply) → AnswersQuery old query reply → IsAnswer old query reply
query_answer old (Bounds p q) (Refused refusal) tells = refused_word old (Bounds p q) refusal tells
query_answer old (Bounds p q) (Accepted told) (none, never) = absurd never
query_answer old (Bounds p q) (BoundsAre lo hi) (none, is) = plainly none (λ i. bounded (is.0 i) (is.1 i))
query_answer old (Bounds p q) (PathIs hi steps) (none, never) = absurd never
query_answer old (Bounds p q) (Answered answer) (none, never) = absurd never
query_answer old (Bounds p q) (Reasons lines) (none, never) = absurd never
query_answer old (Bounds p q) (BrokenAre listed_) (none, never) = absurd never
query_answer old (Bounds p q) (Believed listed_) (none, never) = absurd never
query_answer old (Bounds p q) (DumpIs version horizon premises) (none, never) = absurd never
query_answer old (Bounds p q) AuditYes (none, never) = absurd never
query_answer old (Bounds p q) (SizeIs n) (none, never) = absurd never
query_answer old (Path p q) (Refused refusal) tells = refused_word old (Path p q) refusal tells
query_answer old (Path p q) (Accepted told) (none, never) = absurd never
query_answer old (Path p q) (BoundsAre lo hi) (none, never) = absurd never
query_answer old (Path p q) (PathIs hi steps) (none, is) = plainly none (refl)
query_answer old (Path p q) (Answered answer) (none, never) = absurd never
query_answer old (Path p q) (Reasons lines) (none, never) = absurd never
query_answer old (Path p q) (BrokenAre listed_) (none, never) = absurd never
query_answer old (Path p q) (Believed listed_) (none, never) = absurd never
query_answer old (Path p q) (DumpIs version horizon premises) (none, never) = absurd never
query_answer old (Path p q) AuditYes (none, never) = absurd never
query_answer old (Path p q) (SizeIs n) (none, never) = absurd never
query_answer old (Ask fact p q) (Refused refusal) tells = refused_word old (Ask fact p q) refusal tells
query_answer old (Ask fact p q) (Accepted told) (none, never) = absurd never
query_answer old (Ask fact p q) (BoundsAre lo hi) (none, never) = absurd never
query_answer old (Ask fact p q) (PathIs hi steps) (none, never) = absurd never
query_answer old (Ask fact p q) (Answered answer) (none, is) = plainly none (ap found is)
query_answer old (Ask fact p q) (Reasons lines) (none, never) = absurd never
query_answer old (Ask fact p q) (BrokenAre listed_) (none, never) = absurd never
query_answer old (Ask fact p q) (Believed listed_) (none, never) = absurd never
query_answer old (Ask fact p q) (DumpIs version horizon premises) (none, never) = absurd never
query_answer old (Ask fact p q) AuditYes (none, never) = absurd never
query_answer old (Ask fact p q) (SizeIs n) (none, never) = absurd never
query_answer old (Why o) (Refused refusal) tells = refused_word old (Why o) refusal tells
query_answer old (Why o) (Accepted told) (none, never) = absurd never
query_answer old (Why o) (BoundsAre lo hi) (none, never) = absurd never
query_answer old (Why o) (PathIs hi steps) (none, never) = absurd never
query_answer old (Why o) (Answered answer) (none, never) = absurd never
query_answer old (Why o) (Reasons lines) (none, is) = plainly none (refl)
query_answer old (Why o) (BrokenAre listed_) (none, never) = absurd never
query_answer old (Why o) (Believed listed_) (none, never) = absurd never
query_answer old (Why o) (DumpIs version horizon premises) (none, never) = absurd never
query_answer old (Why o) AuditYes (none, never) = absurd never
query_answer old (Why o) (SizeIs n) (none, never) = absurd never
query_answer old Check (Refused refusal) tells = refused_word old Check refusal tells
query_answer old Check (Accepted told) (none, never) = absurd never
query_answer old Check (BoundsAre lo hi) (none, never) = absurd never
query_answer old Check (PathIs hi steps) (none, never) = absurd never
query_answer old Check (Answered answer) (none, never) = absurd never
query_answer old Check (Reasons lines) (none, never) = absurd never
query_answer old Check (BrokenAre listed_) (none, is) = plainly none (ap broken is)
query_answer old Check (Believed listed_) (none, never) = absurd never
query_answer old Check (DumpIs version horizon premises) (none, never) = absurd never
query_answer old Check AuditYes (none, never) = absurd never
query_answer old Check (SizeIs n) (none, never) = absurd never
query_answer old Listing (Refused refusal) tells = refused_word old Listing refusal tells
query_answer old Listing (Accepted told) (none, never) = absurd never
query_answer old Listing (BoundsAre lo hi) (none, never) = absurd never
query_answer old Listing (PathIs hi steps) (none, never) = absurd never
query_answer old Listing (Answered answer) (none, never) = absurd never
query_answer old Listing (Reasons lines) (none, never) = absurd never
query_answer old Listing (BrokenAre listed_) (none, never) = absurd never
query_answer old Listing (Believed listed_) (none, is) = plainly none (ap listed is)
query_answer old Listing (DumpIs version horizon premises) (none, never) = absurd never
query_answer old Listing AuditYes (none, never) = absurd never
query_answer old Listing (SizeIs n) (none, never) = absurd never
query_answer old Dump (Refused refusal) tells = refused_word old Dump refusal tells
query_answer old Dump (Accepted told) (none, never) = absurd never
query_answer old Dump (BoundsAre lo hi) (none, never) = absurd never
query_answer old Dump (PathIs hi steps) (none, never) = absurd never
query_answer old Dump (Answered answer) (none, never) = absurd never
query_answer old Dump (Reasons lines) (none, never) = absurd never
query_answer old Dump (BrokenAre listed_) (none, never) = absurd never
query_answer old Dump (Believed listed_) (none, never) = absurd never
query_answer old Dump (DumpIs version horizon premises) (none, is) = plainly none (λ i. dumped (is.0 i) (is.1 i) (is.2 i))
query_answer old Dump AuditYes (none, never) = absurd never
query_answer old Dump (SizeIs n) (none, never) = absurd never
query_answer old Audit (Refused refusal) tells = refused_word old Audit refusal tells
query_answer old Audit (Accepted told) (none, never) = absurd never
query_answer old Audit (BoundsAre lo hi) (none, never) = absurd never
query_answer old Audit (PathIs hi steps) (none, never) = absurd never
query_answer old Audit (Answered answer) (none, never) = absurd never
query_answer old Audit (Reasons lines) (none, never) = absurd never
query_answer old Audit (BrokenAre listed_) (none, never) = absurd never
query_answer old Audit (Believed listed_) (none, never) = absurd never
query_answer old Audit (DumpIs version horizon premises) (none, never) = absurd never
query_answer old Audit AuditYes (none, is) = plainly none (refl)
query_answer old Audit (SizeIs n) (none, never) = absurd never
query_answer old Size (Refused refusal) tells = refused_word old Size refusal tells
query_answer old Size (Accepted told) (none, never) = absurd never
query_answer old Size (BoundsAre lo hi) (none, never) = absurd never
query_answer old Size (PathIs hi steps) (none, never) = absurd never
query_answer old Size (Answered answer) (none, never) = absurd never
query_answer old Size (Reasons lines) (none, never) = absurd never
query_answer old Size (BrokenAre listed_) (none, never) = absurd never
query_answer old Size (Believed listed_) (none, never) = absurd never
query_answer old Size (DumpIs version horizon premises) (none, never) = absurd never
query_answer old Size AuditYes (none, never) = absurd never
query_answer old Size (SizeIs n) (none, is) = plainly none (ap sized is)

-- rooms of lists count for nothing
point_bare : (p : QueryPoint) → moment_of_point (bare_point p) ≡ moment_of_point p
point_bare (Declared p) = refl
point_bare (Derived o) = refl

cause_bare : (m : TimeMap) (p : QueryPoint) → point_cause m (bare_point p) ≡ point_cause m p
cause_bare m (Declared p) = refl
cause_bare m (Derived o) = refl

answered_bare : (m : TimeMap) (query : Query) → answered m (bare_query query) ≡ answered m query
answered_bare m (Bounds p q) = λ i. bounded (bound_negated (gap m (point_bare q i) (point_bare p i))) (gap m (point_bare p i) (point_bare q i))
answered_bare m (Path p q) = refl
answered_bare m (Ask fact p q) = λ i. found (ask m fact (point_bare p i) (point_bare q i))
answered_bare m (Why o) = refl
answered_bare m Check = refl
answered_bare m Listing = refl
answered_bare m Dump = refl
answered_bare m Audit = refl
answered_bare m Size = refl

queries_bare : (m : TimeMap) (query : Query) → query_cause m (bare_query query) ≡ query_cause m query
queries_bare m (Bounds p q) = λ i. option_or (cause_bare m p i) (cause_bare m q i)
queries_bare m (Path p q) = λ i. option_or (cause_bare m p i) (cause_bare m q i)
queries_bare m (Ask fact p q) = λ i. option_or (name_cause (sort_in m.list.premises fact) fact is_fact) (option_or (cause_bare m p i) (cause_bare m q i))
queries_bare m (Why o) = refl
queries_bare m Check = refl
queries_bare m Listing = refl
queries_bare m Dump = refl
queries_bare m Audit = refl
queries_bare m Size = refl

causes : (old : Standing) (q q_2 : Query) → bare_query q ≡ bare_query q_2 → query_cause (built old) q ≡ query_cause (built old) q_2
causes old q q_2 same = sym (queries_bare (built old) q) ∙ ap (query_cause (built old)) same ∙ queries_bare (built old) q_2

answers_agree : (old : Standing) (q : Query) (q_2 : Query) (a b : Reply) → bare_query q ≡ bare_query q_2 → IsAnswer old q a → IsAnswer old q_2 b → said a ≡ said b
answers_agree old q q_2 a b same (for_word c e is) (for_word d f is_2) =
    is ∙ ap caused (one_cause (query_cause (built old) q) c d e (causes old q q_2 same ∙ f)) ∙ sym is_2
answers_agree old q q_2 a b same (for_word c e is) (plainly none is_2) = some_none (said a ≡ said b) (query_cause (built old) q) c e (causes old q q_2 same ∙ none)
answers_agree old q q_2 a b same (plainly none is) (for_word d f is_2) = some_none (said a ≡ said b) (query_cause (built old) q) d (causes old q q_2 same ∙ f) none
answers_agree old q q_2 a b same (plainly _ is) (plainly _ is_2) =
    is ∙ sym (answered_bare (built old) q) ∙ ap (answered (built old)) same ∙ answered_bare (built old) q_2 ∙ sym is_2

-- ---- lines

abbrev query_in : Line → Query → Query
query_in (Question query) other = query
query_in Silent other = other
query_in (Change edit) other = other

abbrev is_question : Line → Bool
is_question Silent = false
is_question (Change edit) = false
is_question (Question query) = true

meanings_agree : (old new other : Standing) (line : List ℕ) (l m : Line) (a b : Reply) → ReadsLine old.version line l → ReadsLine old.version line m → AnswersLine old l a new → AnswersLine old m b other → said a ≡ said b
meanings_agree old new other line Silent m a b reads reads_2 never answers_2 = absurd never
meanings_agree old new other line (Change edit) Silent a b reads reads_2 answers never = absurd never
meanings_agree old new other line (Question query) Silent a b reads reads_2 answers never = absurd never
meanings_agree old new other line (Change edit) (Change edit_2) a b reads reads_2 answers answers_2 =
    let same : Change edit_2 ≡ Change edit = one_reading old.version (words line) (Change edit_2) (Change edit) reads_2 reads in
    let is : edit_2 ≡ edit = ap (λ l. edit_in l edit_2) same in
    verdicts_agree old edit a b (edit_verdict old new edit a answers) (edit_verdict old other edit b (subst (λ e. AnswersEdit old e b other) is answers_2))
meanings_agree old new other line (Question query) (Question query_2) a b reads reads_2 answers answers_2 =
    let same : bare_line (Question query) ≡ bare_line (Question query_2) = one_reading old.version (words line) (Question query) (Question query_2) reads reads_2 in
    let is : bare_query query ≡ bare_query query_2 = ap (λ l. query_in l (bare_query query)) same in
    answers_agree old query query_2 a b is (query_answer old query a answers.0) (query_answer old query_2 b answers_2.0)
meanings_agree old new other line (Change edit) (Question query) a b reads reads_2 answers answers_2 =
    let same : bare_line (Question query) ≡ Change edit = one_reading old.version (words line) (Question query) (Change edit) reads_2 reads in
    no_lie (said a ≡ said b) (ap is_question same)
meanings_agree old new other line (Question query) (Change edit) a b reads reads_2 answers answers_2 =
    let same : bare_line (Question query) ≡ Change edit = one_reading old.version (words line) (Question query) (Change edit) reads reads_2 in
    no_lie (said a ≡ said b) (ap is_question same)

lines_agree : (old new other : Standing) (line : List ℕ) (a b : Reply) → LineAnswers old line a new → LineAnswers old line b other → said a ≡ said b
lines_agree old new other line a b (for_length _ is _) (for_length _ is_2 _) = ap said (is ∙ sym is_2)
lines_agree old new other line a b (for_length long is _) (for_form short nothing is_2 _) = absurd (omega (arith, long, short))
lines_agree old new other line a b (for_length long is _) (for_meaning m says answers) = absurd (omega (arith, long, says.short))
lines_agree old new other line a b (for_form short nothing is _) (for_length long is_2 _) = absurd (omega (arith, long, short))
lines_agree old new other line a b (for_form _ _ is _) (for_form _ _ is_2 _) = ap said (is ∙ sym is_2)
lines_agree old new other line a b (for_form short nothing is _) (for_meaning m says answers) = absurd (nothing m says.reads)
lines_agree old new other line a b (for_meaning m says answers) (for_length long is_2 _) = absurd (omega (arith, long, says.short))
lines_agree old new other line a b (for_meaning m says answers) (for_form short nothing is_2 _) = absurd (nothing m says.reads)
lines_agree old new other line a b (for_meaning l says answers) (for_meaning m says_2 answers_2) = meanings_agree old new other line l m a b says.reads says_2.reads answers answers_2

pub texts_are_one : (old new other : Standing) (line : List ℕ) (a b : Reply)
    → LineAnswers old line a new → LineAnswers old line b other → shows_walk a ≡ false → (k : ℕ) → text_of k a ≡ text_of k b
texts_are_one old new other line a b h g plain k =
    let same = lines_agree old new other line a b h g in
    let plain_2 : shows_walk b ≡ false = shows_said b ∙ ap shows (sym same) ∙ sym (shows_said a) ∙ plain in
    text_said k a plain ∙ ap (said_text k) same ∙ sym (text_said k b plain_2)
