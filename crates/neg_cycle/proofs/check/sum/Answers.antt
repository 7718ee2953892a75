use Rattle.std.proofs.Common.{◌≡◌, ◌∙◌, ◌+◌, ◌*◌, ◌<◌, ◌^◌, ℤ, pos, neg_ℤ, ◌+ℤ◌, ◌≤ℤ◌, subst, sym, ap, arith, rules, w64, to_z, of_z}
use Rattle.std.specs.Int.{w128}
use Rattle.std.specs.Int.RustNames.{FitsSigned}
use Rattle.std.proofs.lemmas.Int.{to_z-of_z}
use Rattle.neg_cycle.proofs.Checked.{sum_of-more, sum_fits, sum_seen}
use Rattle.neg_cycle.proofs.check.sum.Goals as goal

pub loop-step-preserved : goal.loop-step-preserved
loop-step-preserved c =
    let w : ℤ = c.step-item.result.weight in
    let fits : FitsSigned w64 w = search rules in
    let few : c.loop-step.step-index < 2 ^ 64 = omega arith in
    let sum : ℤ = to_z w128 c.loop-step.sum-bits in
    let is_w : c.from-sum.result ≡ w = c.from-sum.ensures ∙ to_z-of_z w64 w fits in
    let bounds = sum_fits c.loop-step.step-index sum w few c.loop-step.invariant.low c.loop-step.invariant.high fits in
    let seen : to_z w128 (of_z w128 (sum +ℤ to_z w128 (of_z w128 c.from-sum.result))) ≡ sum +ℤ w = sum_seen sum w c.from-sum.result is_w fits bounds.0 in
    record {
      is = seen ∙ (ap (λ (z : ℤ). z +ℤ w) c.loop-step.invariant.is ∙ sym (sum_of-more c.args.steps.now c.loop-step.step-index c.step-item.result c.loop-step-test.true c.step-item.is));
      low = subst (λ (z : ℤ). neg_ℤ (pos ((c.loop-step.step-index + 1) * 9223372036854775808)) ≤ℤ z) (sym seen) bounds.1;
      high = subst (λ (z : ℤ). z ≤ℤ pos ((c.loop-step.step-index + 1) * 9223372036854775808)) (sym seen) bounds.2;
    }
