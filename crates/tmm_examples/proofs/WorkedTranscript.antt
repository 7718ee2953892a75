-- Lines of a worked script, from the sixth on, each with the bytes that it is answered.
use Rattle.std.proofs.Common.{◌≡◌, ℕ, ◌-ℤ◌, ◌≤ℤ◌, List, [], ◌∷◌, pos, negsuc, true, false, refl, sym, subst, arith}
use Rattle.std.specs.Prelude.{◌≤◌, codes, length, Some, None}
use Rattle.std.specs.Fmt.{digits}
use Rattle.std.specs.List.{All, AllByRecursion, Contains, IsDistinct}
use Rattle.std.proofs.lemmas.Int.{ints}
use Rattle.std.proofs.lemmas.List.Elements.{All-nil, All-cons}
use Rattle.tmm_model.specs.declared.answer.Answer.TheVariants.{Yes, No}
use Rattle.tmm_model.specs.declared.answer.Cause.TheVariants.{Clipped}
use Rattle.tmm_model.specs.declared.bound.Bound.TheVariants.{Finite, Free}
use Rattle.tmm_model.specs.declared.line.Line.{Line}
use Rattle.tmm_model.specs.declared.line.Line.TheVariants.{Silent, Change, Question}
use Rattle.tmm_model.specs.declared.line.Query.{Query}
use Rattle.tmm_model.specs.declared.line.Query.TheVariants.{Ask}
use Rattle.tmm_model.specs.declared.point.Occ.{Occ}
use Rattle.tmm_model.specs.declared.point.PointName.TheVariants.{Start, Begin}
use Rattle.tmm_model.specs.declared.point.QueryPoint.TheVariants.{Declared, Derived}
use Rattle.tmm_model.specs.declared.premise.Edit.{Edit}
use Rattle.tmm_model.specs.declared.premise.Edit.TheVariants.{Add}
use Rattle.tmm_model.specs.declared.premise.Premise.TheVariants.{Event, Token, Dist}
use Rattle.tmm_model.specs.declared.refusal.Refusal.TheVariants.{Form, Unknown, Cycle}
use Rattle.tmm_model.specs.declared.turn.Turn.{Turn}
use Rattle.tmm_model.specs.declared.turn.Turn.TheVariants.{Silent as NoReply, Reply as ReplyOf}
use Rattle.tmm_model.specs.declared.changes.Changes.{Changes}
use Rattle.tmm_model.specs.declared.premise.Premise.{Premise}
use Rattle.tmm_model.specs.declared.walk.Side.TheVariants.{Hi, Lo, Base}
use Rattle.tmm_model.specs.declared.walk.WalkStep.{WalkStep}
use Rattle.tmm_model.specs.Answers.{ask, size, most_size}
use Rattle.tmm_model.specs.Changes.{delta}
use Rattle.tmm_model.specs.Bounds.{after}
use Rattle.tmm_model.specs.Cycles.{steps_in, IsPath, IsCycleOf}
use Rattle.tmm_model.specs.Edits.{next_list}
use Rattle.tmm_model.specs.Kept.{IsAccepted}
use Rattle.tmm_model.specs.Lines.{words}
use Rattle.tmm_grammar.specs.Bare.{bare_line}
use Rattle.tmm_model.specs.Types.{Listed}
use Rattle.tmm_model.specs.Questions.{query_cause}
use Rattle.tmm_model.specs.declared.version.Version.{Version}
use Rattle.tmm_model.specs.declared.version.Version.TheVariants.{One}
use Rattle.tmm_grammar.specs.Reading.{line_of, query_of, edit_of, premise_of, ask_of, two_points_of, query_point_of, point_of, occ_of, parts, two_names_of, name_alone_of, dist_of, bound_of, number_of, natural_of, digits_on}
use Rattle.tmm_model.specs.Replies.{Accepted, Refused, Answered}
use Rattle.tmm_model.specs.Standing.{Standing, IsConsistent, arcs_in}
use Rattle.tmm_model.specs.Transcript.{Step, IsReadAs, for_form, for_meaning}
use Rattle.tmm_grammar.proofs.LineForms.{line_of-sound, line_of-none}
use Rattle.list_theory.proofs.Cycles.{IsNegativeCycle-from_cycle, no_dates_from_cycle}
use Rattle.belief_theory.proofs.FarTables.{by_table, of_map, of_maps}
use Rattle.tmm_examples.proofs.WorkedScripts.{within, root, effect, before_push, push}

abbrev pub seq : {T : Type 0} → List T → Listed T
seq xs = record { items = xs; room = 0 }

abbrev pub occ : List ℕ → List (List ℕ) → Occ
occ name rules = record { root = name; rules = seq rules }

-- the bytes of a reply that is none of a refusal, and those of one
abbrev pub told : List ℕ → Turn
told text = ReplyOf (seq text) false

abbrev pub refused : List ℕ → Turn
refused text = ReplyOf (seq text) true

-- a line that the function reads so is read so
pub read_as : (version : Version) (line : List ℕ) (l : Line) → length line ≤ 400 → line_of version (words line) ≡ Some (bare_line l) → IsReadAs version line l
read_as version line l short is = record { short = short; reads = line_of-sound version (words line) l is }

-- what holds of one after the other holds of all
pub each : {X : Type 0} (F : X → Type 0) (xs : List X) → AllByRecursion F xs → All F xs
each F [] h = All-nil F
each F (x ∷ xs) h = All-cons F x xs h.0 (each F xs h.1)

-- ---- line 6: event e push

abbrev before : Standing
before = within 1000 before_push

abbrev add_event : Edit
add_event = Add (Event (codes "e") (codes "push"))

event_reads : line_of One (words (codes "event e push")) ≡ Some (Change add_event)
unfolding words line_of edit_of premise_of two_names_of
event_reads = refl

-- the push shuts the door
abbrev news : Changes
news = record {
  erased = seq [];
  left = seq [];
  entered = seq (occ (codes "e") (codes "r" ∷ []) ∷ []);
  loose = seq [];
  clips = seq (record { token = occ (codes "k") []; by = occ (codes "e") (codes "r" ∷ []) } ∷ []);
  broken = seq [];
  mended = seq [];
}

-- all dates may be 0
dates : IsConsistent (next_list before add_event).premises
dates = (
  λ p. pos 0,
  record {
    at_start = refl;
    met = each (λ e. (pos 0 -ℤ pos 0) ≤ℤ e.weight) (arcs_in (next_list before add_event).premises) (omega (arith, ints), (omega (arith, ints), (omega (arith, ints), (omega (arith, ints), tt))));
  },
)

accepted : IsAccepted before add_event
accepted = record {
  no_cause = refl;
  dates = dates;
  small = subst (λ n. n ≤ most_size) (sym (of_map size (next_list before add_event))) (omega arith);
}

an_event : Step before 6 (codes "event e push") (told (codes "6 ok\n  in e/r\n  clip k by e/r\n")) (next_list before add_event)
unfolding digits
an_event = (
  Accepted news,
  for_meaning (Change add_event) (read_as One (codes "event e push") (Change add_event) (omega arith) event_reads) (accepted, sym (of_maps delta before (next_list before add_event)), refl),
  refl,
  refl,
)

-- ---- after line 7

abbrev pushed : Standing
pushed = within 1000 push

-- line 8: ask open e e
abbrev is_open : Query
is_open = Ask (codes "open") (Declared (Begin (codes "e"))) (Declared (Begin (codes "e")))

is_open_reads : line_of One (words (codes "ask open e e")) ≡ Some (Question is_open)
unfolding words line_of edit_of premise_of query_of ask_of two_points_of query_point_of point_of parts
is_open_reads = refl

open_at_push : Step pushed 8 (codes "ask open e e") (told (codes "8 yes k\n")) pushed
unfolding digits
open_at_push = (
  Answered (Yes (occ (codes "k") [])),
  for_meaning (Question is_open) (read_as One (codes "ask open e e") (Question is_open) (omega arith) is_open_reads) (
    (of_map (λ m. query_cause m is_open) pushed, sym (of_map (λ m. ask m (codes "open") (root (codes "e")) (root (codes "e"))) pushed)),
    refl,
  ),
  refl,
  refl,
)

-- line 9: ask open e e/r
abbrev stays_open : Query
stays_open = Ask (codes "open") (Declared (Begin (codes "e"))) (Derived (occ (codes "e") (codes "r" ∷ [])))

stays_open_reads : line_of One (words (codes "ask open e e/r")) ≡ Some (Question stays_open)
unfolding words line_of edit_of premise_of query_of ask_of two_points_of query_point_of point_of occ_of parts
stays_open_reads = refl

not_open_after : Step pushed 9 (codes "ask open e e/r") (told (codes "9 no\n  k clipped e/r\n")) pushed
unfolding digits
not_open_after = (
  Answered (No (seq (record { token = occ (codes "k") []; cause = Clipped (occ (codes "e") (codes "r" ∷ [])) } ∷ [])) 0),
  for_meaning (Question stays_open) (read_as One (codes "ask open e e/r") (Question stays_open) (omega arith) stays_open_reads) (
    (of_map (λ m. query_cause m stays_open) pushed, sym (of_map (λ m. ask m (codes "open") (root (codes "e")) (effect (codes "e") (codes "r"))) pushed)),
    refl,
  ),
  refl,
  refl,
)

-- line 10: token t h
abbrev add_token : Edit
add_token = Add (Token (codes "t") (codes "h"))

token_reads : line_of One (words (codes "token t h")) ≡ Some (Change add_token)
unfolding words line_of edit_of premise_of two_names_of
token_reads = refl

unknown_fact : Step pushed 10 (codes "token t h") (refused (codes "10 no unknown h\n")) pushed
unfolding digits
unknown_fact = (
  Refused (Unknown (Declared (Begin (codes "h")))),
  for_meaning (Change add_token) (read_as One (codes "token t h") (Change add_token) (omega arith) token_reads) ((refl, refl), refl),
  refl,
  refl,
)

-- line 11: point
no_reading : line_of One (words (codes "point")) ≡ None
unfolding words line_of query_of edit_of premise_of name_alone_of
no_reading = refl

no_form : Step pushed 11 (codes "point") (refused (codes "11 no form\n")) pushed
unfolding digits
no_form = (Refused Form, for_form (omega arith) (λ l. line_of-none One (words (codes "point")) l no_reading) refl refl, refl, refl)

-- line 12: # x
comment_reads : line_of One (words (codes "# x")) ≡ Some Silent
unfolding words line_of
comment_reads = refl

silence : Step pushed 12 (codes "# x") NoReply pushed
silence = (read_as One (codes "# x") Silent (omega arith) comment_reads, refl)

-- ---- line 13: dist y k e 11 *, but x has e at 10

abbrev late : Premise
late = Dist (codes "y") (Begin (codes "k")) (Begin (codes "e")) (Finite (pos 11)) Free

abbrev add_dist : Edit
add_dist = Add late

dist_reads : line_of One (words (codes "dist y k e 11 *")) ≡ Some (Change add_dist)
unfolding words line_of edit_of premise_of dist_of point_of bound_of number_of natural_of digits_on
dist_reads = refl

abbrev y_lo : WalkStep
y_lo = record { premise = codes "y"; side = Lo; from = Begin (codes "e"); to = Begin (codes "k"); weight = negsuc 10 }

abbrev k_base : WalkStep
k_base = record { premise = codes "k"; side = Base; from = Begin (codes "k"); to = Start; weight = pos 0 }

abbrev x_hi : WalkStep
x_hi = record { premise = codes "x"; side = Hi; from = Start; to = Begin (codes "e"); weight = pos 10 }

way_back : IsPath (steps_in push) (Begin (codes "k")) (Begin (codes "e")) (k_base ∷ x_hi ∷ [])
unfolding IsDistinct
way_back = record {
  own = each (Contains (steps_in push)) (k_base ∷ x_hi ∷ []) ((0, omega arith, refl), ((4, omega arith, refl), tt));
  leads = (refl, (refl, refl));
  distinct = ((refl, (refl, tt)), ((refl, tt), (tt, tt)));
}

cycle : IsCycleOf push late (negsuc 0) (y_lo ∷ k_base ∷ x_hi ∷ [])
cycle = record {
  first = y_lo;
  own = (0, omega arith, refl);
  cycle = record { rest = k_base ∷ x_hi ∷ []; are = refl; back = way_back; sums = refl };
  tightest = by_table (λ far. after (negsuc 10) (far (Begin (codes "k")) (Begin (codes "e")))) push;
  negative = omega (arith, ints);
}

no_dates : Step pushed 13 (codes "dist y k e 11 *") (refused (codes "13 no cycle -1\n  y lo e k -11\n  k base k start 0\n  x hi start e 10\n")) pushed
unfolding digits
no_dates = (
  Refused (Cycle (negsuc 0) (seq (y_lo ∷ k_base ∷ x_hi ∷ []))),
  for_meaning (Change add_dist) (read_as One (codes "dist y k e 11 *") (Change add_dist) (omega arith) dist_reads) (
    record {
      no_cause = refl;
      no_dates = no_dates_from_cycle push late (y_lo ∷ k_base ∷ x_hi ∷ []) (IsNegativeCycle-from_cycle push late (negsuc 0) (y_lo ∷ k_base ∷ x_hi ∷ []) cycle);
      cycle = cycle;
    },
    refl,
  ),
  refl,
  refl,
)
