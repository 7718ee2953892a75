use Rattle.std.proofs.Common.{◌≡◌, ◌∙◌, ◌++◌, [], ◌∷◌, Some, sym, ap, subst, rules, w64, to_z, of_z}
use Rattle.std.specs.Prelude.{IsSome, OnOk, FitsSigned, slice_get}
use Rattle.std.proofs.lemmas.Int.{to_z-of_z}
use Rattle.std.specs.List.{All}
use Rattle.tmm_model.specs.declared.premise.Premise.TheVariants.{Rule}
use Rattle.tmm_model.specs.Moments.{as_rule, read_by}
use Rattle.tmm_model.specs.Sorts.{class_in}
use Rattle.tmm_model.specs.Standing.{premise_in}
use Rattle.spots.proofs.Rules.{read_known}
use Rattle.projection.specs.Places.{name_at}
use Rattle.projection.proofs.AtPlaces.{found_at, named_at}
use Rattle.belief_table.specs.Decided.{AddsRows}
use Rattle.belief_turns.proofs.rows.add_row_at.Goals as goal

pub add_row-requires-clause-read : goal.add_row-requires-clause-read
add_row-requires-clause-read c =
    let s = c.args.standing.now.present in
    let r = c.in-Some-Rule in
    let rule = Rule r.name r.field-0-1 r.field-0-2 r.field-0-3 r.field-0-4 r.given r.unless_facts in
    let at_place : slice_get s.premises c.args.place ≡ Some rule = sym r.ensures ∙ ap Some r.field-0-is in
    let there = subst (λ n. premise_in s.premises n ≡ Some rule) (named_at s c.args.place rule at_place) (found_at s c.requires.sound.well_named c.args.place rule at_place) in
    c.as_slice-3.ensures.value
    ∙ c.facts_read-read.ensures
    ∙ (λ i. c.as_slice.ensures.value i ++ c.as_slice-2.ensures.value i)
    ∙ ap (λ o. read_by (as_rule o)) (sym there)

pub add_row-requires-clause-facts : goal.add_row-requires-clause-facts
add_row-requires-clause-facts c =
    let s = c.args.standing.now.present in
    let r = c.in-Some-Rule in
    let rule = Rule r.name r.field-0-1 r.field-0-2 r.field-0-3 r.field-0-4 r.given r.unless_facts in
    let at_place : slice_get s.premises c.args.place ≡ Some rule = sym r.ensures ∙ ap Some r.field-0-is in
    let there = subst (λ n. premise_in s.premises n ≡ Some rule) (named_at s c.args.place rule at_place) (found_at s c.requires.sound.well_named c.args.place rule at_place) in
    subst (All (λ fact. IsSome (class_in s.premises fact))) (sym (add_row-requires-clause-read c)) (read_known s c.requires.sound r.name (rule, there, tt))

pub returns-clause-adds : goal.returns-clause-adds
returns-clause-adds c =
    let s = c.args.standing.now.present in
    let r = c.in-Some-Rule in
    let rule = Rule r.name r.field-0-1 r.field-0-2 r.field-0-3 r.field-0-4 r.given r.unless_facts in
    let at_place : slice_get s.premises c.args.place ≡ Some rule = sym r.ensures ∙ ap Some r.field-0-is in
    let fits : FitsSigned w64 c.args.date = search rules in
    subst (λ z. OnOk c.add_row.result (AddsRows (name_at s c.args.place ∷ []) c.args.event z c.args.decisions.now c.add_row.new.decisions)) (to_z-of_z w64 c.args.date fits)
    (subst (λ n. OnOk c.add_row.result (AddsRows (n ∷ []) c.args.event (to_z w64 (of_z w64 c.args.date)) c.args.decisions.now c.add_row.new.decisions)) (sym (named_at s c.args.place rule at_place)) c.add_row.ensures.adds)
