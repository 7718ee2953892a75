use Rattle.std.proofs.Common.{◌↔◌, ◌≡◌, ◌≢◌, IsTrue, arith, rules}
use Rattle.neg_cycle.proofs.Checked.{refuted, Leads-stop, Leads-more, Leads-end}
use Rattle.neg_cycle.proofs.check.leads.Goals as goal

pub returns-then-ne : goal.returns-then-ne
returns-then-ne c =
    let other : c.step-item.result.from ≢ c.loop-step.at.now = search rules in
    refuted (Leads-stop c.args.from.now c.args.to.now c.loop-step.at.now c.args.steps.now c.loop-step.step-index c.loop-step.invariant c.step-item.result c.loop-step-test.true c.step-item.is other)

pub loop-step-preserved : goal.loop-step-preserved
loop-step-preserved c =
    let same : c.step-item.result.from ≡ c.loop-step.at.now = search rules in
    Leads-more c.args.from.now c.args.to.now c.loop-step.at.now c.args.steps.now c.loop-step.step-index c.loop-step.invariant c.step-item.result c.loop-step-test.true c.step-item.is same

pub returns : goal.returns
returns c =
    let ended = Leads-end c.args.from.now c.args.to.now c.loop-step.at.now c.args.steps.now c.loop-step.step-index c.loop-step.invariant (omega arith) in
    let at_end : IsTrue c.eq.result ↔ (c.loop-step.at.now ≡ c.args.to.now) = search rules in
    (λ t. ended.1 (at_end.0 t), λ h. at_end.1 (ended.0 h))
