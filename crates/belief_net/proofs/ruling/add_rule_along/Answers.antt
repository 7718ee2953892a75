use Rattle.std.proofs.Common.{◌≡◌, ◌∙◌, ◌<◌, false, true, [], length, take, refl, sym, subst, arith}
use Rattle.std.proofs.lemmas.List.{take_more, take_all}
use Rattle.belief_net.specs.Adding.{AddsRuleAt}
use Rattle.belief_turns.specs.Heads.{AddsUnder}
use Rattle.belief_turns.proofs.RuleHeads.{heads_stay}
use Rattle.belief_table.proofs.Named.{last_on, last_stays}
use Rattle.belief_net.proofs.Ruled.{rule_nowhere, rule_next, not_before}
use Rattle.belief_table.proofs.Parted.{on_at}
use Rattle.belief_net.proofs.ruling.add_rule_along.Goals as goal

pub loop-x-init : goal.loop-x-init
loop-x-init c = record {
  adds = λ s rule under are. (rule_nowhere c.args.tree.now rule c.args.kind [] c.args.decisions.now (λ y on is. (let never : false ≡ true = on in cc)), under);
  names = record { rules = refl; classes = refl };
  last = last_stays c.args.decisions.now;
}

pub add_rule_at-requires-clause-node : goal.add_rule_at-requires-clause-node
add_rule_at-requires-clause-node c = c.requires.live _ (on_at c.args.numbers.now c.loop-x.x-index (omega (arith, c.loop-x-test.true)))

pub loop-x-preserved : goal.loop-x-preserved
loop-x-preserved c =
    let t = c.args.tree.now in
    let kind = c.args.kind in
    let heads = c.args.heads.now in
    let numbers = c.args.numbers.now in
    let i = c.loop-x.x-index in
    let inv = c.loop-x.invariant in
    let e = c.in_ok-add_rule_at.ensures in
    let old = c.args.decisions.now in
    let mid = c.loop-x.decisions in
    let new = c.add_rule_at.new.decisions in
    let within : i < length numbers = omega (arith, c.loop-x-test.true) in
    record {
      adds = λ s rule under are.
          let first = inv.adds s rule under are in
          let next = e.adds s rule first.1 (heads_stay s rule old mid heads are inv.names) in (
            subst (λ l. AddsRuleAt t rule kind l old new) (sym (take_more numbers i 0 within))
                (rule_next t rule kind s (take i numbers) _ old mid new (not_before numbers c.requires.once i within) first.1 e.last first.0 next.0),
            next.1,
          );
      names = record { rules = e.names.rules ∙ inv.names.rules; classes = e.names.classes ∙ inv.names.classes };
      last = last_on old mid new inv.last e.last;
    }

pub returns-in_err-add_rule_at-clause-last : goal.returns-in_err-add_rule_at-clause-last
returns-in_err-add_rule_at-clause-last c = last_on c.args.decisions.now c.loop-x.decisions c.add_rule_at.new.decisions c.loop-x.invariant.last c.add_rule_at.ensures.last

pub returns-clause-adds : goal.returns-clause-adds
returns-clause-adds c =
    let numbers = c.args.numbers.now in
    let old = c.args.decisions.now in
    let new = c.loop-x.decisions in
    let all : take c.loop-x.x-index numbers ≡ numbers = take_all c.loop-x.x-index numbers (omega (arith, c.loop-x-test.false)) in
    subst (λ l. AddsUnder (λ rule. AddsRuleAt c.args.tree.now rule c.args.kind l old new) c.args.heads.now old new) all c.loop-x.invariant.adds
