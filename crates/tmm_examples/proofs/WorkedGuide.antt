-- The smaller examples of the reader's guide.
use Rattle.std.proofs.Common.{◌≡◌, [], ◌∷◌, map, pos, negsuc, refl, true, false}
use Rattle.std.specs.Prelude.{codes, Some, None}
use Rattle.std.specs.Fmt.{digits}
use Rattle.tmm_model.specs.declared.bound.Bound.TheVariants.{Finite, Free}
use Rattle.tmm_model.specs.declared.point.PointName.TheVariants.{Start, Begin, End}
use Rattle.tmm_model.specs.declared.premise.Edit.TheVariants.{Add, Erase}
use Rattle.tmm_model.specs.declared.premise.Premise.TheVariants.{Kind, Event, Token}
use Rattle.tmm_model.specs.declared.token.Shape.TheVariants.{Persistence as APersistence}
use Rattle.tmm_model.specs.declared.walk.Side.TheVariants.{Hi, Lo}
use Rattle.tmm_model.specs.Answers.{holds, fails, clipped, ask, rows}
use Rattle.tmm_model.specs.Beliefs.{is_of, rules_at, is_free, due, level, roots}
use Rattle.belief_theory.specs.Outcomes.{decisions}
use Rattle.tmm_model.specs.Bounds.{bound_plus, bound_at_most}
use Rattle.tmm_model.specs.Erasure.{kept_without}
use Rattle.list_theory.specs.Fallen.{fallen_with}
use Rattle.tmm_model.specs.Firsts.{sorted}
use Rattle.tmm_model.specs.Lines.{words, bound_word, number_word, shown_text}
use Rattle.tmm_model.specs.Maps.{built, order}
use Rattle.tmm_model.specs.Moments.{Moment, rules, printed, low, high}
use Rattle.tmm_model.specs.Names.{is_name}
use Rattle.tmm_model.specs.Points.{point_word, occ_word}
use Rattle.tmm_model.specs.Sorts.{a_fact, a_rule, sort_in, class_in, declared_by}
use Rattle.tmm_model.specs.Standing.{Standing, name_of, points_in, steps_of}
use Rattle.tmm_model.specs.Edits.{next_list}
use Rattle.belief_theory.specs.Touched.{touched, touched_decisions}
use Rattle.tmm_model.specs.Verdicts.{taken, unknown, ill_sorted, list_cause}
use Rattle.belief_theory.proofs.FarTables.{of_map, of_maps}
use Rattle.tmm_examples.proofs.WorkedScripts.{within, dated, door, push, root, effect}

-- ---- names, words and bounds

names : (is_name (codes "e-1") ≡ true) × (is_name (codes "1e") ≡ false) × (is_name [] ≡ false)
names = (refl, refl, refl)

point_words : (point_word Start ≡ codes "start") × (point_word (Begin (codes "k")) ≡ codes "k") × (point_word (End (codes "k")) ≡ codes "k.end")
point_words = (refl, refl, refl)

an_effect_word : (occ_word (record { root = codes "e"; rules = record { items = codes "r" ∷ []; room = 0 } }) ≡ codes "e/r") × (printed (effect (codes "e") (codes "r")) ≡ codes "e/r")
an_effect_word = (refl, refl)

of_bounds : (bound_plus (Finite (pos 3)) Free ≡ Free) × (bound_at_most Free (pos 3) ≡ false)
of_bounds = (refl, refl)

line_words : words (codes "  point   a\r") ≡ codes "point" ∷ codes "a" ∷ []
unfolding words
line_words = refl

numbers : (number_word (negsuc 4) ≡ codes "-5") × (bound_word Free ≡ codes "*")
unfolding digits
numbers = (refl, refl)

a_line : shown_text (dated (codes "x") (codes "e") 10) ≡ codes "dist x start e 10 10"
unfolding digits
a_line = refl

-- ---- the standing list

declared : declared_by door ≡ codes "door" ∷ codes "open" ∷ codes "shut" ∷ []
declared = refl

sorts : (sort_in push (codes "open") ≡ Some a_fact) × (sort_in push (codes "r") ≡ Some a_rule) × (sort_in push (codes "q") ≡ None)
sorts = (refl, refl, refl)

class_of_open : class_in push (codes "open") ≡ Some (codes "door")
class_of_open = refl

all_points : points_in push ≡ Start ∷ Begin (codes "k") ∷ Begin (codes "e") ∷ []
all_points = refl

sides : steps_of (dated (codes "x") (codes "e") 10)
    ≡ record { premise = codes "x"; side = Hi; from = Start; to = Begin (codes "e"); weight = pos 10 }
    ∷ record { premise = codes "x"; side = Lo; from = Begin (codes "e"); to = Start; weight = negsuc 9 } ∷ []
sides = refl

without_e : map name_of (fallen_with (codes "e") push) ≡ codes "e" ∷ codes "x" ∷ []
without_e = refl

without_door : map name_of (kept_without (codes "door") push) ≡ codes "push" ∷ codes "e" ∷ codes "x" ∷ []
without_door = refl

causes : (list_cause (within 1000 push) (Add (Event (codes "f") (codes "shut"))) ≡ Some (ill_sorted (codes "shut")))
    × (list_cause (within 1000 push) (Add (Token (codes "t") (codes "h"))) ≡ Some (unknown (codes "h")))
    × (list_cause (within 1000 push) (Add (Kind (codes "open"))) ≡ Some (taken (codes "open")))
    × (list_cause (within 1000 push) (Erase (codes "e")) ≡ None)
causes = (refl, refl, refl, refl)

-- ---- occurrences and belief

abbrev pushed : Standing
pushed = within 1000 push

abbrev k : Moment
k = root (codes "k")

abbrev e : Moment
e = root (codes "e")

abbrev er : Moment
er = effect (codes "e") (codes "r")

delays : (rules er ≡ codes "r" ∷ []) × (low pushed (rules er) ≡ pos 1) × (high pushed (rules er) ≡ Finite (pos 2))
delays = (refl, refl, refl)

what_it_is : is_of pushed er ≡ Some (APersistence, codes "shut")
what_it_is = refl

events_and_tokens : (roots pushed ≡ k ∷ e ∷ []) × (rules_at pushed e ≡ codes "r" ∷ []) × (rules_at pushed k ≡ [])
events_and_tokens = (refl, refl, refl)

in_their_order : sorted (order (built pushed)) (er ∷ e ∷ k ∷ []) ≡ k ∷ e ∷ er ∷ []
in_their_order = of_map (λ m. sorted (order m) (er ∷ e ∷ k ∷ [])) pushed

is_due : due pushed (built pushed).far e (codes "r") ≡ pos 11
is_due = of_map (λ m. due pushed m.far e (codes "r")) pushed

free_there : is_free pushed (built pushed).far (k ∷ e ∷ []) e (codes "r") ≡ true
free_there = of_map (λ m. is_free pushed m.far (k ∷ e ∷ []) e (codes "r")) pushed

level_by_level : (level pushed (built pushed).far 10 ≡ k ∷ e ∷ []) × (level pushed (built pushed).far 11 ≡ k ∷ e ∷ er ∷ [])
level_by_level = (of_map (λ m. level pushed m.far 10) pushed, of_map (λ m. level pushed m.far 11) pushed)

one_decision : decisions pushed (built pushed).believed ≡ (e, codes "r") ∷ []
one_decision = of_map (λ m. decisions pushed m.believed) pushed

open_at_push : (ask (built pushed) (codes "open") e e ≡ holds k)
    × (ask (built pushed) (codes "open") e er ≡ fails ((k, clipped er) ∷ []) 0)
    × (ask (built pushed) (codes "open") er er ≡ fails ((k, clipped er) ∷ []) 0)
open_at_push = (
  of_map (λ m. ask m (codes "open") e e) pushed,
  of_map (λ m. ask m (codes "open") e er) pushed,
  of_map (λ m. ask m (codes "open") er er) pushed,
)

listed : rows (built pushed)
    ≡ record { date = pos 0; occ = k; what = codes "open"; clip = Some er }
    ∷ record { date = pos 10; occ = e; what = codes "push"; clip = None }
    ∷ record { date = pos 11; occ = er; what = codes "shut"; clip = None } ∷ []
listed = of_map rows pushed

one_touched : touched pushed (next_list pushed (Erase (codes "k"))) ≡ 1
one_touched = of_maps touched_decisions pushed (next_list pushed (Erase (codes "k")))
