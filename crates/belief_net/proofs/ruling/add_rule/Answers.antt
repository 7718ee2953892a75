use Rattle.std.proofs.Common.{sym, subst, nat_eq}
use Rattle.std.specs.List.{IsDistinct}
use Rattle.row_links.specs.Lists.{IsOn}
use Rattle.belief_net.specs.Adding.{AddsRuleAt}
use Rattle.belief_turns.proofs.RuleHeads.{under_named, last_since}
use Rattle.belief_net.proofs.HeadsOfRule.{rule_since}
use Rattle.belief_table.proofs.Named.{last_stays}
use Rattle.belief_net.proofs.Ruled.{rule_everywhere, rule_nowhere}
use Rattle.belief_net.proofs.ruling.add_rule.Goals as goal

pub has_event-requires : goal.has_event-requires
has_event-requires c = λ x on. c.in_ok-numbers.ensures.live x (subst (λ l. IsOn l x) c.as_slice-nodes.ensures.value on)

pub returns-then-not-has_event-clause-adds : goal.returns-then-not-has_event-clause-adds
returns-then-not-has_event-clause-adds c =
    let t = c.args.tree.now in
    let numbers = c.in_ok-numbers.numbers.items in
    let d = c.args.decisions.now in
    rule_everywhere t c.args.rule c.args.kind numbers d d c.in_ok-numbers.ensures.all
    (rule_nowhere t c.args.rule c.args.kind numbers d (λ x on. c.has_event.ensures c.if-not-has_event.true x (subst (λ l. IsOn l x) (sym c.as_slice-nodes.ensures.value) on)))

pub returns-in_err-heads-clause-last : goal.returns-in_err-heads-clause-last
returns-in_err-heads-clause-last c = last_since c.args.decisions.now c.heads_of.new.decisions c.heads_of.ensures.names c.heads_of.new.decisions (last_stays c.heads_of.new.decisions)

pub add_rule_along-requires-clause-live : goal.add_rule_along-requires-clause-live
add_rule_along-requires-clause-live c = λ x on. c.in_ok-numbers.ensures.live x (subst (λ l. IsOn l x) c.as_slice-nodes.ensures.value on)

pub add_rule_along-requires-clause-once : goal.add_rule_along-requires-clause-once
add_rule_along-requires-clause-once c = subst (IsDistinct nat_eq) (sym c.as_slice-nodes.ensures.value) c.in_ok-numbers.ensures.once

pub add_rule_along-requires-clause-few : goal.add_rule_along-requires-clause-few
add_rule_along-requires-clause-few c = c.in_ok-heads.ensures.heads.few

pub returns-in_err-add_rule_along-clause-last : goal.returns-in_err-add_rule_along-clause-last
returns-in_err-add_rule_along-clause-last c = last_since c.args.decisions.now c.heads_of.new.decisions c.in_ok-heads.ensures.names c.add_rule_along.new.decisions c.add_rule_along.ensures.last

pub returns-clause-adds : goal.returns-clause-adds
returns-clause-adds c =
    let t = c.args.tree.now in
    let s = c.args.standing.now.present in
    let numbers = c.in_ok-numbers.numbers.items in
    let old = c.args.decisions.now in
    let mid = c.heads_of.new.decisions in
    let new = c.add_rule_along.new.decisions in
    let more = c.in_ok-heads.ensures.names in
    let told = c.in_ok-add_rule_along.ensures.adds s c.args.rule (under_named old mid more s c.requires.under) c.in_ok-heads.ensures.heads in
    rule_since old mid more t c.args.rule c.args.kind new
    (rule_everywhere t c.args.rule c.args.kind numbers mid new c.in_ok-numbers.ensures.all
    (subst (λ l. AddsRuleAt t c.args.rule c.args.kind l mid new) c.as_slice-nodes.ensures.value told.0))

pub returns-clause-under : goal.returns-clause-under
returns-clause-under c =
    let s = c.args.standing.now.present in
    (c.in_ok-add_rule_along.ensures.adds s c.args.rule (under_named c.args.decisions.now c.heads_of.new.decisions c.in_ok-heads.ensures.names s c.requires.under) c.in_ok-heads.ensures.heads).1

pub returns-clause-last : goal.returns-clause-last
returns-clause-last c = last_since c.args.decisions.now c.heads_of.new.decisions c.in_ok-heads.ensures.names c.add_rule_along.new.decisions c.in_ok-add_rule_along.ensures.last
