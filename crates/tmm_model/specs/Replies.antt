-- What a line is answered, and the bytes of every reply.
use Rattle.std.specs.Prelude.{ℕ, zero, Bool, true, false, List, [], ◌∷◌, ◌++◌, map, length, codes, Option, Some, None, decimal}
use Rattle.std.specs.Fmt.{signed_decimal}
use Rattle.std.specs.List.{flat_map}
use Rattle.tmm_model.specs.declared.answer.Answer.{Answer}
use Rattle.tmm_model.specs.declared.answer.Answer.TheVariants.{Yes, No, Unordered}
use Rattle.tmm_model.specs.declared.answer.Blame.{Blame}
use Rattle.tmm_model.specs.declared.answer.Cause.{Cause}
use Rattle.tmm_model.specs.declared.answer.Cause.TheVariants.{Late, Clipped, Ends}
use Rattle.tmm_model.specs.declared.answer.Report.{Report}
use Rattle.tmm_model.specs.declared.bound.Bound.{Bound}
use Rattle.tmm_model.specs.declared.bound.Bound.TheVariants.{Finite, Free}
use Rattle.tmm_model.specs.declared.changes.Changes.{Changes}
use Rattle.tmm_model.specs.declared.changes.Clip.{Clip}
use Rattle.tmm_model.specs.declared.changes.ListRow.{ListRow}
use Rattle.tmm_model.specs.declared.changes.WhyLine.{WhyLine}
use Rattle.tmm_model.specs.declared.changes.WhyLine.TheVariants.{Premise, Order, Derived}
use Rattle.tmm_model.specs.declared.point.Occ.{Occ}
use Rattle.tmm_model.specs.declared.refusal.Refusal.{Refusal}
use Rattle.tmm_model.specs.declared.refusal.Refusal.TheVariants.{LimitLine, Form, Taken, Unknown, Sort, LimitPremises, LimitPoints, Cycle, LimitSize}
use Rattle.tmm_model.specs.declared.version.Version.{Version}
use Rattle.tmm_model.specs.declared.version.Version.TheVariants.{One, Two}
use Rattle.tmm_model.specs.declared.walk.Side.{Side}
use Rattle.tmm_model.specs.declared.walk.Side.TheVariants.{Hi, Lo, Base, Length}
use Rattle.tmm_model.specs.declared.walk.WalkStep.{WalkStep}
use Rattle.tmm_model.specs.Lines.{spaced}
use Rattle.tmm_model.specs.Points.{point_word, occ_word, query_word}

-- What a line is answered, where it is answered and there is memory.
pub data Reply : Type 0 where
  -- an edit, and what it changed
  Accepted : Changes → Reply
  -- any line, and why it is refused
  Refused : Refusal → Reply
  -- the lower and the upper bound on the distance of two points
  BoundsAre : Bound → Bound → Reply
  -- the upper bound, and a walk that gives it
  PathIs : Bound → List WalkStep → Reply
  -- whether a fact holds
  Answered : Answer → Reply
  -- the reasons of a belief
  Reasons : List WhyLine → Reply
  -- the broken protections
  BrokenAre : List Report → Reply
  -- the believed occurrences
  Believed : List ListRow → Reply
  -- the version, the horizon, and each standing premise as it is printed
  DumpIs : Version → ℕ → List (List ℕ) → Reply
  -- the kept beliefs are right
  AuditYes : Reply
  -- the size of the map
  SizeIs : ℕ → Reply

-- refusals, and nothing else, tell that a line was wrong; a plain `no` to a question is an answer
abbrev pub is_refusal : Reply → Bool
is_refusal (Refused _) = true
is_refusal (Answered Unordered) = true
is_refusal _ = false

-- a line: its indent, its words, and byte 10
abbrev pub line_of : List ℕ → List (List ℕ) → List ℕ
line_of indent words = indent ++ spaced words ++ 10 ∷ []

-- the first line of the reply to line k
abbrev pub head_line : ℕ → List (List ℕ) → List ℕ
head_line k words = line_of [] (decimal k ∷ words)

-- details stand behind two spaces, and what belongs to a detail behind four
abbrev pub two : List ℕ
two = codes "  "

-- what belongs to a detail
abbrev pub four : List ℕ
four = codes "    "

-- a number, or `*` for none
abbrev pub bound_word : Bound → List ℕ
bound_word (Finite x) = signed_decimal x
bound_word Free = codes "*"

-- which of its premise's constraints a step is
abbrev pub side_word : Side → List ℕ
side_word Hi = codes "hi"
side_word Lo = codes "lo"
side_word Base = codes "base"
side_word Length = codes "length"

-- a step of a walk: its premise, its side, its two points and its weight
abbrev pub step_line : List ℕ → WalkStep → List ℕ
step_line indent s = line_of indent (s.premise ∷ side_word s.side ∷ point_word s.from ∷ point_word s.to ∷ signed_decimal s.weight ∷ [])

-- the steps of a walk, one a line
abbrev pub step_lines : List ℕ → List WalkStep → List ℕ
step_lines indent steps = flat_map (step_line indent) steps

-- why a token is no supporter
abbrev pub cause_words : Cause → List (List ℕ)
cause_words Late = codes "late" ∷ []
cause_words (Clipped by) = codes "clipped" ∷ occ_word by ∷ []
cause_words Ends = codes "ends" ∷ []

-- a token, and why it is no supporter
abbrev pub blame_line : List ℕ → Blame → List ℕ
blame_line indent b = line_of indent (occ_word b.token ∷ cause_words b.cause)

-- how many tokens more there are, where there are any
abbrev pub more_line : List ℕ → ℕ → List ℕ
more_line indent zero = []
more_line indent m = line_of indent (codes "and" ∷ decimal m ∷ codes "more" ∷ [])

-- the blames of an answer
abbrev pub blame_lines : List ℕ → Answer → List ℕ
blame_lines indent (No blames more) = flat_map (blame_line indent) blames.items ++ more_line indent more
blame_lines indent _ = []

-- whether a fact holds, and by which token
abbrev pub answer_words : Answer → List (List ℕ)
answer_words (Yes by) = codes "yes" ∷ occ_word by ∷ []
answer_words (No _ _) = codes "no" ∷ []
answer_words Unordered = codes "no" ∷ codes "unordered" ∷ []

-- what stands behind a broken protection on its line
abbrev pub unordered_words : Answer → List (List ℕ)
unordered_words Unordered = codes "unordered" ∷ []
unordered_words _ = []

-- a broken protection, and the blames of its answer
abbrev pub report_lines : Report → List ℕ
report_lines r = line_of two (codes "broken" ∷ r.name ∷ unordered_words r.answer) ++ blame_lines four r.answer

-- a word, and a name or an occurrence
abbrev pub name_line : List ℕ → List ℕ → List ℕ
name_line word name = line_of two (word ∷ name ∷ [])

-- a word and an occurrence
abbrev pub occ_line : List ℕ → Occ → List ℕ
occ_line word o = name_line word (occ_word o)

-- a token, and what clips it
abbrev pub clip_line : Clip → List ℕ
clip_line c = line_of two (codes "clip" ∷ occ_word c.token ∷ codes "by" ∷ occ_word c.by ∷ [])

-- what an edit changed
abbrev pub change_lines : Changes → List ℕ
change_lines c =
    flat_map (name_line (codes "erased")) c.erased.items
    ++ flat_map (occ_line (codes "out")) c.left.items
    ++ flat_map (occ_line (codes "in")) c.entered.items
    ++ flat_map (occ_line (codes "loose")) c.loose.items
    ++ flat_map clip_line c.clips.items
    ++ flat_map report_lines c.broken.items
    ++ flat_map (name_line (codes "mended")) c.mended.items

-- why a line is refused
abbrev pub refusal_words : Refusal → List (List ℕ)
refusal_words LimitLine = codes "limit" ∷ codes "line" ∷ []
refusal_words Form = codes "form" ∷ []
refusal_words (Taken word) = codes "taken" ∷ query_word word ∷ []
refusal_words (Unknown word) = codes "unknown" ∷ query_word word ∷ []
refusal_words (Sort word) = codes "sort" ∷ query_word word ∷ []
refusal_words LimitPremises = codes "limit" ∷ codes "premises" ∷ []
refusal_words LimitPoints = codes "limit" ∷ codes "points" ∷ []
refusal_words (Cycle sum _) = codes "cycle" ∷ signed_decimal sum ∷ []
refusal_words LimitSize = codes "limit" ∷ codes "size" ∷ []

-- a cycle has its steps behind it
abbrev pub refusal_lines : Refusal → List ℕ
refusal_lines (Cycle _ steps) = step_lines two steps.items
refusal_lines _ = []

-- the tokens that support the antecedents of a rule, where it has any
abbrev pub with_words : List Occ → List (List ℕ)
with_words [] = []
with_words supports = codes "with" ∷ map occ_word supports

-- the exceptions of a rule, where it has any
abbrev pub unless_words : List (List ℕ) → List (List ℕ)
unless_words [] = []
unless_words facts = codes "unless" ∷ facts

-- a reason of a belief, with the steps of an order
abbrev pub why_lines : WhyLine → List ℕ
why_lines (Premise name) = name_line (codes "premise") name
why_lines (Order first second far steps) = line_of two (codes "order" ∷ query_word first ∷ query_word second ∷ signed_decimal far ∷ []) ++ step_lines four steps.items
why_lines (Derived occ rule trigger supports unless_facts) =
    line_of two (occ_word occ ∷ codes "by" ∷ rule ∷ codes "on" ∷ occ_word trigger ∷ with_words supports.items ++ unless_words unless_facts.items)

-- what clips it, where something does
abbrev pub clip_words : Option Occ → List (List ℕ)
clip_words None = []
clip_words (Some by) = codes "clip" ∷ occ_word by ∷ []

-- a believed occurrence: its earliest date, its word, its kind or fact, and its clip
abbrev pub row_line : ListRow → List ℕ
row_line r = line_of two (signed_decimal r.early ∷ occ_word r.occ ∷ r.what ∷ clip_words r.clip)

-- a list's horizon, behind the line that opens version 2 where the list is of it
abbrev pub opening_lines : Version → ℕ → List ℕ
opening_lines One horizon = line_of two (codes "horizon" ∷ decimal horizon ∷ [])
opening_lines Two horizon = line_of two (codes "tmm" ∷ codes "2" ∷ []) ++ line_of two (codes "horizon" ∷ decimal horizon ∷ [])

-- The text of the reply to line k.
abbrev pub text_of : ℕ → Reply → List ℕ
text_of k (Accepted changes) = head_line k (codes "ok" ∷ []) ++ change_lines changes
text_of k (Refused refusal) = head_line k (codes "no" ∷ refusal_words refusal) ++ refusal_lines refusal
text_of k (BoundsAre lo hi) = head_line k (codes "bounds" ∷ bound_word lo ∷ bound_word hi ∷ [])
text_of k (PathIs far steps) = head_line k (codes "path" ∷ bound_word far ∷ []) ++ step_lines two steps
text_of k (Answered answer) = head_line k (answer_words answer) ++ blame_lines two answer
text_of k (Reasons lines) = head_line k (codes "why" ∷ []) ++ flat_map why_lines lines
text_of k (BrokenAre reports) = head_line k (codes "check" ∷ decimal (length reports) ∷ []) ++ flat_map report_lines reports
text_of k (Believed rows) = head_line k (codes "list" ∷ decimal (length rows) ∷ []) ++ flat_map row_line rows
text_of k (DumpIs version horizon premises) =
    head_line k (codes "dump" ∷ decimal (length premises) ∷ [])
    ++ opening_lines version horizon
    ++ flat_map (λ premise. line_of two (premise ∷ [])) premises
text_of k AuditYes = head_line k (codes "audit" ∷ codes "yes" ∷ [])
text_of k (SizeIs n) = head_line k (codes "size" ∷ decimal n ∷ [])

-- the text where there was no memory for the reply to line k
abbrev pub memory_text : ℕ → List ℕ
memory_text k = head_line k (codes "memory" ∷ [])
