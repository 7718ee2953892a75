-- Examples of the reader's guide: what a line can say, what a premise uses, tokens, and dates.
use Rattle.std.proofs.Common.{◌≡◌, ◌-ℤ◌, ◌≤ℤ◌, ℤ, List, [], ◌∷◌, map, pos, refl, arith}
use Rattle.std.proofs.lemmas.Int.{ints}
use Rattle.std.specs.Prelude.{codes, cond}
use Rattle.tmm_model.specs.declared.bound.Bound.TheVariants.{Finite}
use Rattle.tmm_model.specs.declared.line.Query.TheVariants.{Ask}
use Rattle.tmm_model.specs.declared.point.PointName.{PointName}
use Rattle.tmm_model.specs.declared.point.PointName.TheVariants.{Start, Begin}
use Rattle.tmm_model.specs.declared.point.QueryPoint.TheVariants.{Declared}
use Rattle.tmm_model.specs.declared.premise.Edit.TheVariants.{Add, Erase}
use Rattle.tmm_model.specs.declared.premise.Premise.{Premise}
use Rattle.tmm_model.specs.declared.premise.Premise.TheVariants.{Dist}
use Rattle.tmm_model.specs.Beliefs.{tokens}
use Rattle.tmm_model.specs.Edits.{next_list}
use Rattle.tmm_model.specs.Lines.{edit_words, query_words, IsWellFormedPremise}
use Rattle.tmm_model.specs.Maps.{built}
use Rattle.tmm_model.specs.Moments.{Moment}
use Rattle.tmm_model.specs.Reasons.{rests_on}
use Rattle.tmm_model.specs.Sorts.{a_name, is_kind, is_effect, fact_use, uses_of}
use Rattle.tmm_model.specs.Points.{same_point}
use Rattle.tmm_model.specs.Standing.{Standing, empty_list, arcs_in}
use Rattle.tmm_model.specs.Walks.{IsDates}
use Rattle.belief_theory.specs.Touched.{watched}
use Rattle.belief_theory.proofs.FarTables.{of_map}
use Rattle.tmm_examples.proofs.WorkedTranscript.{each}
use Rattle.tmm_examples.proofs.WorkedScripts.{within, push, rule, root, effect}

-- bounds stand in order
too_narrow : IsWellFormedPremise (Dist (codes "e") (Begin (codes "a")) (Begin (codes "b")) (Finite (pos 5)) (Finite (pos 3))) → ⊥
too_narrow w = omega (arith, w.5)

words_of_lines : (edit_words (Erase (codes "e")) ≡ codes "erase" ∷ codes "e" ∷ [])
    × (query_words (Ask (codes "open") (Declared (Begin (codes "e"))) (Declared (Begin (codes "e")))) ≡ codes "ask" ∷ codes "open" ∷ codes "e" ∷ codes "e" ∷ [])
words_of_lines = (refl, refl)

-- the list after premises are added, the first first
abbrev pub added_to : Standing → List Premise → Standing
added_to s [] = s
added_to s (p ∷ ps) = added_to (next_list s (Add p)) ps

seven_lines : added_to empty_list push ≡ within 1000 push
seven_lines = refl

abbrev pushed : Standing
pushed = within 1000 push

abbrev occurrences : List Moment
occurrences = root (codes "k") ∷ root (codes "e") ∷ effect (codes "e") (codes "r") ∷ []

the_tokens : (map (λ k. k.spot) (tokens pushed occurrences) ≡ root (codes "k") ∷ effect (codes "e") (codes "r") ∷ [])
    × (map (λ k. k.fact) (tokens pushed occurrences) ≡ codes "open" ∷ codes "shut" ∷ [])
the_tokens = (refl, refl)

what_r_watches : map (λ k. k.spot) (watched (built pushed) (codes "r")) ≡ root (codes "k") ∷ effect (codes "e") (codes "r") ∷ []
what_r_watches = of_map (λ m. map (λ k. k.spot) (watched m (codes "r"))) pushed

what_the_rule_uses : uses_of (rule (codes "r") (codes "push") 1 2 (codes "shut") (codes "open" ∷ []))
    ≡ a_name (codes "push") is_kind ∷ a_name (codes "shut") is_effect ∷ fact_use (codes "open") ∷ []
what_the_rule_uses = refl

-- k at 0 and e at 10
abbrev date : PointName → ℤ
date p = cond (same_point p (Begin (codes "e"))) (pos 10) (pos 0)

there_are_dates : IsDates Start (arcs_in push) date
there_are_dates = record {
  at_start = refl;
  met = each (λ e. (date e.to -ℤ date e.from) ≤ℤ e.weight) (arcs_in push)
      (omega (arith, ints), (omega (arith, ints), (omega (arith, ints), (omega (arith, ints), (omega (arith, ints), (omega (arith, ints), tt))))));
}

-- an effect rests on its event and on the first supporter of its antecedent; a root on nothing
the_effect_rests_on : rests_on (built pushed) (effect (codes "e") (codes "r")) ≡ root (codes "e") ∷ root (codes "k") ∷ []
the_effect_rests_on = of_map (λ m. rests_on m (effect (codes "e") (codes "r"))) pushed

a_root_rests_on_nothing : rests_on (built pushed) (root (codes "k")) ≡ []
a_root_rests_on_nothing = of_map (λ m. rests_on m (root (codes "k"))) pushed
