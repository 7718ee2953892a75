use Rattle.std.proofs.Common.{◌≡◌, ◌∙◌, sym, ap, rules, w64}
use Rattle.std.proofs.lemmas.Int.{to_z-of_z}
use Rattle.std.specs.Prelude.{Some, slice_get, FitsSigned}
use Rattle.tmm_model.specs.declared.premise.Premise.TheVariants.{Rule}
use Rattle.tmm_model.specs.Moments.{as_rule}
use Rattle.timeline.proofs.AtPlaces.{found_at, named_at}
use Rattle.timeline.proofs.rule.rule_at.Goals as goal

pub returns : goal.returns
returns c =
    let s = c.args.standing.now.present in
    let lo = c.in-Some-Rule.lo in
    let fits : FitsSigned w64 c.in-Some-Rule.lo = search rules in
    let rule = Rule c.in-Some-Rule.name c.in-Some-Rule.field-0-1 lo c.in-Some-Rule.field-0-3 c.in-Some-Rule.effect c.in-Some-Rule.given c.in-Some-Rule.unless_facts in
    let at_place : slice_get s.premises c.args.place ≡ Some rule = sym c.in-Some-Rule.ensures ∙ ap Some c.in-Some-Rule.field-0-is in
    let found = found_at s c.invariants.ensures.well_named c.args.place rule at_place in
    record {
      name = sym (named_at s c.args.place rule at_place);
      lo = to_z-of_z w64 lo fits ∙ ap (λ o. (as_rule o).lo) (sym found);
      effect = ap (λ o. (as_rule o).effect) (sym found);
      given = c.as_slice.ensures.value ∙ ap (λ o. (as_rule o).given) (sym found);
      exceptions = c.as_slice-in-Some-Rule.ensures.value ∙ ap (λ o. (as_rule o).exceptions) (sym found);
    }
