-- Two facts of two classes that contradict each other as long as a premise says so.
use Rattle.std.proofs.Common.{◌≡◌, ◌++◌, ◌-ℤ◌, ◌≤ℤ◌, ℤ, List, [], ◌∷◌, pos, refl, sym, subst, arith}
use Rattle.std.specs.Prelude.{codes, cond, ◌≤◌, true, false, Some, None}
use Rattle.std.specs.Fmt.{digits}
use Rattle.std.proofs.lemmas.Int.{ints}
use Rattle.tmm_model.specs.declared.answer.Answer.TheVariants.{No}
use Rattle.tmm_model.specs.declared.answer.Cause.TheVariants.{Clipped}
use Rattle.tmm_model.specs.declared.changes.Changes.{Changes}
use Rattle.tmm_model.specs.declared.line.Line.TheVariants.{Change, Question}
use Rattle.tmm_model.specs.declared.line.Query.{Query}
use Rattle.tmm_model.specs.declared.line.Query.TheVariants.{Ask}
use Rattle.tmm_model.specs.declared.point.PointName.{PointName}
use Rattle.tmm_model.specs.declared.point.PointName.TheVariants.{Start, Begin}
use Rattle.tmm_model.specs.declared.point.QueryPoint.TheVariants.{Declared}
use Rattle.tmm_model.specs.declared.premise.Edit.{Edit}
use Rattle.tmm_model.specs.declared.premise.Edit.TheVariants.{Add, Erase, Upgrade}
use Rattle.tmm_model.specs.declared.premise.Premise.{Premise}
use Rattle.tmm_model.specs.declared.premise.Premise.TheVariants.{Kind, Point, Event, Token, Protect, Against}
use Rattle.tmm_model.specs.declared.refusal.Refusal.TheVariants.{Form, Sort}
use Rattle.tmm_model.specs.declared.version.Version.TheVariants.{One, Two}
use Rattle.tmm_model.specs.Answers.{ask, size, most_size}
use Rattle.tmm_model.specs.Changes.{delta, changes}
use Rattle.tmm_model.specs.Beliefs.{are_rivals}
use Rattle.tmm_model.specs.Edits.{next_list}
use Rattle.tmm_model.specs.Lines.{words}
use Rattle.tmm_model.specs.Maps.{built}
use Rattle.tmm_model.specs.Points.{same_point}
use Rattle.tmm_model.specs.Questions.{query_cause}
use Rattle.tmm_model.specs.Replies.{Accepted, Refused, Answered}
use Rattle.tmm_model.specs.Standing.{Standing, empty_list, arcs_in}
use Rattle.tmm_model.specs.Transcript.{Step, for_form, for_meaning}
use Rattle.tmm_model.specs.Walks.{IsDates}
use Rattle.belief_theory.specs.Outcomes.{outcome, fires, blocked}
use Rattle.belief_theory.specs.Touched.{touched, touched_decisions}
use Rattle.belief_theory.proofs.FarTables.{of_map, of_maps}
use Rattle.tmm_grammar.specs.Reading.{line_of, query_of, edit_of, premise_of, against_of, rivals_of, ask_of, two_points_of, query_point_of, point_of, parts, two_names_of, name_alone_of}
use Rattle.tmm_grammar.proofs.LineForms.{line_of-none}
use Rattle.tmm_examples.proofs.WorkedChanges.{none}
use Rattle.tmm_examples.proofs.WorkedScripts.{within_two, class, rule, dated, root, door}
use Rattle.tmm_examples.proofs.WorkedTerms.{added_to}
use Rattle.tmm_examples.proofs.WorkedTranscript.{seq, occ, told, refused, read_as, each}

-- tmm 2 / class door open shut / class alarm calm ringing / token k open / dist z start k 0 0 /
-- token n ringing / dist y start n 4 4 / point p / dist x start p 6 6 / protect g open k p
abbrev alarm : List Premise
alarm =
    door
    ∷ class (codes "alarm") (codes "calm" ∷ codes "ringing" ∷ [])
    ∷ Token (codes "k") (codes "open")
    ∷ dated (codes "z") (codes "k") 0
    ∷ Token (codes "n") (codes "ringing")
    ∷ dated (codes "y") (codes "n") 4
    ∷ Point (codes "p")
    ∷ dated (codes "x") (codes "p") 6
    ∷ Protect (codes "g") (codes "open") (Begin (codes "k")) (Begin (codes "p"))
    ∷ []

abbrev before : Standing
before = within_two 1000 alarm

ten_lines : added_to (next_list empty_list Upgrade) alarm ≡ before
ten_lines = refl

-- k at 0, n at 4 and p at 6
abbrev date : PointName → ℤ
date p = cond (same_point p (Begin (codes "n"))) (pos 4) (cond (same_point p (Begin (codes "p"))) (pos 6) (pos 0))

are_dates : IsDates Start (arcs_in alarm) date
are_dates = record {
  at_start = refl;
  met = each (λ e. (date e.to -ℤ date e.from) ≤ℤ e.weight) (arcs_in alarm)
      (omega (arith, ints), (omega (arith, ints), (omega (arith, ints), (omega (arith, ints), (omega (arith, ints), (omega (arith, ints), (omega (arith, ints), (omega (arith, ints), (omega (arith, ints), tt)))))))));
}

-- ---- line 11: against a open ringing

abbrev add_against : Edit
add_against = Add (Against (codes "a") (codes "open") (codes "ringing"))

abbrev after : Standing
after = next_list before add_against

against_reads : line_of Two (words (codes "against a open ringing")) ≡ Some (Change add_against)
unfolding words line_of edit_of premise_of against_of rivals_of two_names_of
against_reads = refl

-- version 1 does not read it
not_in_version_1 : line_of One (words (codes "against a open ringing")) ≡ None
unfolding words line_of query_of edit_of premise_of against_of
not_in_version_1 = refl

-- n clips k, which breaks the protection
abbrev news : Changes
news = record {
  erased = seq [];
  left = seq [];
  entered = seq [];
  loose = seq [];
  clips = seq (record { token = occ (codes "k") []; by = occ (codes "n") [] } ∷ []);
  broken = seq (record { name = codes "g"; answer = No (seq (record { token = occ (codes "k") []; cause = Clipped (occ (codes "n") []) } ∷ [])) 0 } ∷ []);
  mended = seq [];
}

they_contradict : Step before 11 (codes "against a open ringing") (told (codes "11 ok\n  clip k by n\n  broken g\n    k clipped n\n")) after
unfolding digits
they_contradict = (
  Accepted news,
  for_meaning (Change add_against) (read_as Two (codes "against a open ringing") (Change add_against) (omega arith) against_reads) (
    record { no_cause = refl; dates = (date, are_dates); small = subst (λ n. n ≤ most_size) (sym (of_map size after)) (omega arith) },
    sym (of_maps delta before after),
    refl,
  ),
  refl,
  refl,
)

in_either_order : (are_rivals after (codes "open") (codes "ringing") ≡ true) × (are_rivals after (codes "ringing") (codes "open") ≡ true) × (are_rivals before (codes "open") (codes "ringing") ≡ false)
in_either_order = (refl, refl, refl)

-- ---- line 12: ask open k p

abbrev is_open : Query
is_open = Ask (codes "open") (Declared (Begin (codes "k"))) (Declared (Begin (codes "p")))

is_open_reads : line_of Two (words (codes "ask open k p")) ≡ Some (Question is_open)
unfolding words line_of edit_of premise_of query_of ask_of two_points_of query_point_of point_of parts
is_open_reads = refl

not_open : Step after 12 (codes "ask open k p") (told (codes "12 no\n  k clipped n\n")) after
unfolding digits
not_open = (
  Answered (No (seq (record { token = occ (codes "k") []; cause = Clipped (occ (codes "n") []) } ∷ [])) 0),
  for_meaning (Question is_open) (read_as Two (codes "ask open k p") (Question is_open) (omega arith) is_open_reads) (
    (of_map (λ m. query_cause m is_open) after, sym (of_map (λ m. ask m (codes "open") (root (codes "k")) (root (codes "p"))) after)),
    refl,
  ),
  refl,
  refl,
)

-- ---- line 13: erase a

abbrev erase_against : Edit
erase_against = Erase (codes "a")

erase_reads : line_of Two (words (codes "erase a")) ≡ Some (Change erase_against)
unfolding words line_of edit_of name_alone_of
erase_reads = refl

abbrev no_more : Changes
no_more = record {
  erased = seq (codes "a" ∷ []);
  left = seq [];
  entered = seq [];
  loose = seq (occ (codes "k") [] ∷ []);
  clips = seq [];
  broken = seq [];
  mended = seq (codes "g" ∷ []);
}

they_no_longer_do : Step after 13 (codes "erase a") (told (codes "13 ok\n  erased a\n  loose k\n  mended g\n")) before
unfolding digits
they_no_longer_do = (
  Accepted no_more,
  for_meaning (Change erase_against) (read_as Two (codes "erase a") (Change erase_against) (omega arith) erase_reads) (
    record { no_cause = refl; dates = (date, are_dates); small = subst (λ n. n ≤ most_size) (sym (of_map size before)) (omega arith) },
    sym (of_maps delta after before),
    refl,
  ),
  refl,
  refl,
)

-- ---- line 14: against a open open

no_reading : line_of Two (words (codes "against a open open")) ≡ None
unfolding words line_of query_of edit_of premise_of against_of rivals_of two_names_of
no_reading = refl

no_form : Step before 14 (codes "against a open open") (refused (codes "14 no form\n")) before
unfolding digits
no_form = (Refused Form, for_form (omega arith) (λ l. line_of-none Two (words (codes "against a open open")) l no_reading) refl refl, refl, refl)

-- ---- line 15: against a open door

abbrev of_a_class : Edit
of_a_class = Add (Against (codes "a") (codes "open") (codes "door"))

class_reads : line_of Two (words (codes "against a open door")) ≡ Some (Change of_a_class)
unfolding words line_of edit_of premise_of against_of rivals_of two_names_of
class_reads = refl

no_fact : Step before 15 (codes "against a open door") (refused (codes "15 no sort door\n")) before
unfolding digits
no_fact = (
  Refused (Sort (Declared (Begin (codes "door")))),
  for_meaning (Change of_a_class) (read_as Two (codes "against a open door") (Change of_a_class) (omega arith) class_reads) ((refl, refl), refl),
  refl,
  refl,
)

-- ---- other changes

-- two facts of one class contradict each other anyhow
of_one_class : changes before (next_list before (Add (Against (codes "b") (codes "open") (codes "shut")))) ≡ none
of_one_class = of_maps delta before (next_list before (Add (Against (codes "b") (codes "open") (codes "shut"))))

-- the premise goes with the class of either fact
abbrev alarm_erased : Edit
alarm_erased = Erase (codes "alarm")

gone_with_its_class : changes after (next_list after alarm_erased)
    ≡ record none { erased = codes "alarm" ∷ codes "n" ∷ codes "y" ∷ codes "a" ∷ []; loose = root (codes "k") ∷ []; mended = codes "g" ∷ [] }
gone_with_its_class = of_maps delta after (next_list after alarm_erased)

-- kind push / rule r push 1 1 shut if open / event e push / dist w start e 10 10: the door is open
-- at the push, and no longer where the alarm contradicts it
abbrev pushed : Standing
pushed = within_two 1000 (alarm ++ Kind (codes "push") ∷ rule (codes "r") (codes "push") 1 1 (codes "shut") (codes "open" ∷ []) ∷ Event (codes "e") (codes "push") ∷ dated (codes "w") (codes "e") 10 ∷ [])

abbrev not_shut : Standing
not_shut = next_list pushed add_against

shut_by_the_push : outcome pushed (built pushed).far (built pushed).believed (root (codes "e")) (codes "r") ≡ fires (root (codes "k") ∷ [])
shut_by_the_push = of_map (λ m. outcome m.list m.far m.believed (root (codes "e")) (codes "r")) pushed

blocked_by_the_alarm : outcome not_shut (built not_shut).far (built not_shut).believed (root (codes "e")) (codes "r") ≡ blocked 0
blocked_by_the_alarm = of_map (λ m. outcome m.list m.far m.believed (root (codes "e")) (codes "r")) not_shut

the_premise_touches_it : touched pushed not_shut ≡ 1
the_premise_touches_it = of_maps touched_decisions pushed not_shut
