-- What the two versions of the script read of a line.
use Rattle.std.proofs.Common.{◌≡◌, ℕ, true, List, [], ◌∷◌, Some, None, refl, arith}
use Rattle.std.specs.Prelude.{codes}
use Rattle.std.specs.Fmt.{digits}
use Rattle.tmm_model.specs.declared.line.Line.TheVariants.{Change}
use Rattle.tmm_model.specs.declared.premise.Edit.TheVariants.{Add, Upgrade}
use Rattle.tmm_model.specs.declared.premise.Premise.{Premise}
use Rattle.tmm_model.specs.declared.premise.Premise.TheVariants.{Kind}
use Rattle.tmm_model.specs.declared.refusal.Refusal.TheVariants.{Form}
use Rattle.tmm_model.specs.declared.turn.Turn.TheVariants.{Reply as ReplyOf}
use Rattle.tmm_model.specs.declared.version.Version.TheVariants.{One, Two}
use Rattle.tmm_model.specs.Lines.{words}
use Rattle.tmm_model.specs.Replies.{Refused}
use Rattle.tmm_model.specs.Standing.{empty_list}
use Rattle.tmm_model.specs.Transcript.{Step, for_meaning}
use Rattle.tmm_model.specs.Verdicts.{out_of_form, unknown, list_cause}
use Rattle.tmm_grammar.specs.Reading.{line_of, query_of, edit_of, premise_of, upgrade_of, rule_of, conditions_of, facts_of, given_part, exception_part, bound_of, number_of, natural_of, digits_on}
use Rattle.tmm_grammar.proofs.LineForms.{line_of-sound}
use Rattle.tmm_examples.proofs.WorkedScripts.{class, door, rule, rule_unless, within, within_two}

abbrev line : List ℕ
line = codes "rule r push 1 1 shut if open unless fast"

-- version 2 reads an exception
abbrev with_exception : Premise
with_exception = rule_unless (codes "r") (codes "push") 1 1 (codes "shut") (codes "open" ∷ []) (codes "fast" ∷ [])

in_version_2 : line_of Two (words line) ≡ Some (Change (Add with_exception))
unfolding words line_of edit_of premise_of rule_of conditions_of facts_of given_part exception_part bound_of number_of natural_of digits_on
in_version_2 = refl

-- version 1 reads three antecedents, of which the second is no fact
abbrev with_three : Premise
with_three = rule (codes "r") (codes "push") 1 1 (codes "shut") (codes "open" ∷ codes "unless" ∷ codes "fast" ∷ [])

in_version_1 : line_of One (words line) ≡ Some (Change (Add with_three))
unfolding words line_of edit_of premise_of rule_of conditions_of facts_of given_part exception_part bound_of number_of natural_of digits_on
in_version_1 = refl

no_fact : list_cause (within 1000 (door ∷ class (codes "bolt") (codes "fast" ∷ codes "loose" ∷ []) ∷ Kind (codes "push") ∷ [])) (Add with_three) ≡ Some (unknown (codes "unless"))
no_fact = refl

-- version 1 opens version 2, and version 2 does not
opens : line_of One (words (codes "tmm 2")) ≡ Some (Change Upgrade)
unfolding words line_of edit_of upgrade_of
opens = refl

opens_once : line_of Two (words (codes "tmm 2")) ≡ None
unfolding words line_of query_of edit_of upgrade_of premise_of
opens_once = refl

-- the empty list takes version 2, and no other one does, whether its premises, its horizon or its
-- version are others
taken_once : (list_cause empty_list Upgrade ≡ None) × (list_cause (within 1000 (Kind (codes "push") ∷ [])) Upgrade ≡ Some out_of_form)
    × (list_cause (within 5 []) Upgrade ≡ Some out_of_form) × (list_cause (within_two 1000 []) Upgrade ≡ Some out_of_form)
taken_once = (refl, refl, refl, refl)

not_taken : Step (within 5 []) 1 (codes "tmm 2") (ReplyOf (record { items = codes "1 no form\n"; room = 0 }) true) (within 5 [])
unfolding digits
not_taken = (
  Refused Form,
  for_meaning (Change Upgrade) (record { short = omega arith; reads = line_of-sound One (words (codes "tmm 2")) (Change Upgrade) opens }) ((refl, refl), refl),
  refl,
  refl,
)
