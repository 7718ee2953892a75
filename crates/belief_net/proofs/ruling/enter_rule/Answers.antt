use Rattle.std.proofs.Common.{◌∙◌, ◌++◌, Some, refl, sym, ap, subst}
use Rattle.std.specs.Prelude.{IsSome}
use Rattle.std.specs.List.{All}
use Rattle.tmm_model.specs.Moments.{as_rule, read_by}
use Rattle.tmm_model.specs.Sorts.{class_in}
use Rattle.tmm_model.specs.Standing.{premise_in, name_of}
use Rattle.list_theory.proofs.KnownNames.{found}
use Rattle.spots.specs.Rules.{IsRule}
use Rattle.spots.proofs.Rules.{read_known}
use Rattle.belief_table.specs.declared.state.Beliefs.{Beliefs}
use Rattle.belief_net.specs.Adding.{EntersRule}
use Rattle.belief_net.proofs.Fitting.{fit_with_rule}
use Rattle.belief_net.proofs.ruling.enter_rule.Goals as goal

pub add_rule-requires-clause-read : goal.add_rule-requires-clause-read
add_rule-requires-clause-read c =
    let s = c.args.standing.now.present in
    let there = ap (λ p. premise_in s.premises (name_of p)) (sym c.in-Rule.is) ∙ found s.premises c.requires.fit.tree.seen.network.sound.well_named c.args.premise.now c.requires.stands in
    c.as_slice-in-Rule-2.ensures.value
    ∙ c.facts_read-read.ensures
    ∙ (λ i. c.as_slice.ensures.value i ++ c.as_slice-in-Rule.ensures.value i)
    ∙ ap (λ p. read_by (as_rule (Some p))) (sym c.in-Rule.is)
    ∙ ap (λ o. read_by (as_rule o)) (sym there)

pub add_rule-requires-clause-facts : goal.add_rule-requires-clause-facts
add_rule-requires-clause-facts c =
    let s = c.args.standing.now.present in
    let sound = c.requires.fit.tree.seen.network.sound in
    let there = ap (λ p. premise_in s.premises (name_of p)) (sym c.in-Rule.is) ∙ found s.premises sound.well_named c.args.premise.now c.requires.stands in
    let known = read_known s sound c.in-Rule.name (c.args.premise.now, there, subst IsRule (sym c.in-Rule.is) tt) in
    subst (All (λ fact. IsSome (class_in s.premises fact))) (sym (add_rule-requires-clause-read c)) known

pub returns-in_ok-add_rule-in-Rule-clause-enters : goal.returns-in_ok-add_rule-in-Rule-clause-enters
returns-in_ok-add_rule-in-Rule-clause-enters c =
    let old = c.args.beliefs.now in
    let new : Beliefs = record old { decisions = c.add_rule.new.decisions } in
    subst (λ q. EntersRule c.args.standing.now.present q old new) (sym c.in-Rule.is) (refl, c.in_ok-add_rule-in-Rule.ensures.adds)

pub returns-in_ok-add_rule-in-Rule-clause-fit : goal.returns-in_ok-add_rule-in-Rule-clause-fit
returns-in_ok-add_rule-in-Rule-clause-fit c =
    fit_with_rule c.args.standing.now.present c.args.net.now.present c.args.beliefs.now c.requires.fit c.add_rule.new.decisions c.in-Rule.name c.in-Rule.trigger
    c.in_ok-add_rule-in-Rule.ensures.adds c.in_ok-add_rule-in-Rule.ensures.under
