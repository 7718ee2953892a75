use Rattle.std.proofs.Common.{◌≡◌, ◌∙◌, ◌++◌, Some, sym, ap}
use Rattle.std.specs.List.{list_any}
use Rattle.tmm_model.specs.declared.premise.Premise.TheVariants.{Rule}
use Rattle.tmm_model.specs.Beliefs.{are_rivals}
use Rattle.tmm_model.specs.Moments.{as_rule, read_by, rule_of}
use Rattle.tmm_model.specs.Standing.{premise_in}
use Rattle.marking.proofs.rivals_of_token.reads_rival.Goals as goal

pub returns-in-Some-Rule : goal.returns-in-Some-Rule
returns-in-Some-Rule c =
    let s = c.args.standing.now.present in
    let given = c.in-Some-Rule.given in
    let exceptions = c.in-Some-Rule.unless_facts in
    let rule = Rule c.in-Some-Rule.field-0-0 c.in-Some-Rule.field-0-1 c.in-Some-Rule.field-0-2 c.in-Some-Rule.field-0-3 c.in-Some-Rule.field-0-4 given exceptions in
    let stands : premise_in s.premises c.args.rule ≡ Some rule = sym c.in-Some-Rule.ensures ∙ ap Some c.in-Some-Rule.field-0-is in
    let read : c.facts_read-read.result.items ≡ read_by (rule_of s c.args.rule) = c.facts_read-read.ensures ∙ (λ i. c.as_slice.ensures.value i ++ c.as_slice-in-Some-Rule.ensures.value i) ∙ ap (λ o. read_by (as_rule o)) (sym stands) in
    c.has_rival.ensures ∙ ap (list_any (λ f. are_rivals s f c.args.fact)) (c.as_slice-in-Some-Rule-2.ensures.value ∙ read)
