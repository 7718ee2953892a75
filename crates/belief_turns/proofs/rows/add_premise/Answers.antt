use Rattle.std.proofs.Common.{◌∙◌, ◌++◌, Some, sym, ap, subst}
use Rattle.std.specs.Prelude.{IsSome}
use Rattle.std.specs.List.{All}
use Rattle.tmm_model.specs.Moments.{as_rule, read_by}
use Rattle.tmm_model.specs.Sorts.{class_in}
use Rattle.tmm_model.specs.Standing.{premise_in, name_of}
use Rattle.list_theory.proofs.KnownNames.{found}
use Rattle.spots.specs.Rules.{IsRule}
use Rattle.spots.proofs.Rules.{read_known}
use Rattle.belief_turns.proofs.rows.add_premise.Goals as goal

pub add_row-requires-clause-read : goal.add_row-requires-clause-read
add_row-requires-clause-read c =
    let s = c.args.standing.now.present in
    let there = ap (λ p. premise_in s.premises (name_of p)) (sym c.in-Rule.is) ∙ found s.premises c.requires.sound.well_named c.args.premise.now c.requires.stands in
    c.as_slice-in-Rule-2.ensures.value
    ∙ c.facts_read-read.ensures
    ∙ (λ i. c.as_slice.ensures.value i ++ c.as_slice-in-Rule.ensures.value i)
    ∙ ap (λ p. read_by (as_rule (Some p))) (sym c.in-Rule.is)
    ∙ ap (λ o. read_by (as_rule o)) (sym there)

pub add_row-requires-clause-facts : goal.add_row-requires-clause-facts
add_row-requires-clause-facts c =
    let s = c.args.standing.now.present in
    let there = ap (λ p. premise_in s.premises (name_of p)) (sym c.in-Rule.is) ∙ found s.premises c.requires.sound.well_named c.args.premise.now c.requires.stands in
    let known = read_known s c.requires.sound c.in-Rule.name (c.args.premise.now, there, subst IsRule (sym c.in-Rule.is) tt) in
    subst (All (λ fact. IsSome (class_in s.premises fact))) (sym (add_row-requires-clause-read c)) known
