use Rattle.std.proofs.Common.{◌<◌, length, take, subst, sym, arith}
use Rattle.std.proofs.lemmas.List.{take_all, take_more}
use Rattle.belief_turns.specs.Leaving.{LosesRows}
use Rattle.belief_turns.proofs.Lost.{on_at, lost_none, lost_next, lost_events, lost_under}
use Rattle.belief_table.proofs.Named.{last_stays, last_on}
use Rattle.belief_turns.proofs.leaving.lose_rows.Goals as goal

pub loop-y-init : goal.loop-y-init
loop-y-init c = record {
  lost = lost_none c.args.standing.now.present c.args.net.now.present c.args.tree.now c.args.numbers.now c.args.decisions.now c.first.ensures.listed;
  events = c.requires.events;
  under = c.requires.under;
  covered = c.requires.covered;
  last = last_stays c.args.decisions.now;
}

pub lose_node-requires-clause-live : goal.lose_node-requires-clause-live
lose_node-requires-clause-live c = c.requires.live _ (on_at c.args.numbers.now c.loop-y.y-index _ (omega (arith, c.loop-y-test.true)))

pub loop-y-preserved : goal.loop-y-preserved
loop-y-preserved c =
    let list = c.args.standing.now.present in
    let net = c.args.net.now.present in
    let tree = c.args.tree.now in
    let old = c.args.decisions.now in
    let new = c.lose_node.new.decisions in
    let numbers = c.args.numbers.now in
    let i = c.loop-y.y-index in
    let within : i < length numbers = omega (arith, c.loop-y-test.true) in
    let lost = subst (λ l. LosesRows list net tree numbers l old new) (sym (take_more numbers i _ within))
    (lost_next list net tree numbers (take i numbers) _ old c.loop-y.decisions new c.loop-y.invariant.lost c.in_ok-lose_node.ensures.ok c.in_ok-lose_node.ensures.last.classes) in
    let last = last_on old c.loop-y.decisions new c.loop-y.invariant.last c.in_ok-lose_node.ensures.last in
    record {
      lost = lost;
      events = lost_events list net tree numbers _ old new lost c.requires.events;
      under = (c.requires.under.0, lost_under list net tree numbers _ old new lost last c.requires.under.0 c.requires.under.1);
      covered = c.in_ok-lose_node.ensures.covered;
      last = last;
    }

pub returns-clause-ok : goal.returns-clause-ok
returns-clause-ok c =
    let numbers = c.args.numbers.now in
    subst (λ l. LosesRows c.args.standing.now.present c.args.net.now.present c.args.tree.now numbers l c.args.decisions.now c.loop-y.decisions) (take_all c.loop-y.y-index numbers (omega (arith, c.loop-y-test.false))) c.loop-y.invariant.lost
