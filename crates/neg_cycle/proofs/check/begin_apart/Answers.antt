use Rattle.std.proofs.Common.{◌∙◌, ◌+◌, arith, refl, ap, sym}
use Rattle.std.specs.List.{list_any}
use Rattle.tmm_model.specs.Points.{same_point}
use Rattle.neg_cycle.proofs.Checked.{refuted, begins-stop, begins-more, begins-end, behind}
use Rattle.neg_cycle.proofs.check.begin_apart.Goals as goal

pub returns-then-begins_at : goal.returns-then-begins_at
returns-then-begins_at c =
    refuted (begins-stop c.args.steps.now c.loop-i.i c.loop-i.invariant c.index-steps-i.result c.loop-i-test.true c.index-steps-i.is
    (ap (list_any (λ x. same_point c.index-steps-i.result.from x.from)) (sym (behind c.args.steps.now (c.loop-i.i + 1))) ∙ (sym c.begins_at.ensures ∙ c.if-begins_at.true)))

pub loop-i-preserved : goal.loop-i-preserved
loop-i-preserved c =
    begins-more c.args.steps.now c.loop-i.i c.loop-i.invariant c.index-steps-i.result c.loop-i-test.true c.index-steps-i.is
    (ap (list_any (λ x. same_point c.index-steps-i.result.from x.from)) (sym (behind c.args.steps.now (c.loop-i.i + 1))) ∙ (sym c.begins_at.ensures ∙ c.if-begins_at.false))

pub returns : goal.returns
returns c = (λ _. begins-end c.args.steps.now c.loop-i.i (omega arith) c.loop-i.invariant, λ _. refl)
