use Rattle.std.proofs.Common.{◌∙◌, refl, sym, ap, arith, rules, w64}
use Rattle.std.specs.Prelude.{FitsSigned}
use Rattle.std.proofs.lemmas.Int.{to_z-of_z}
use Rattle.std.proofs.lemmas.List.{take_all}
use Rattle.tmm_model.specs.Bounds.{lesser}
use Rattle.timeline.specs.Rows.{clashes}
use Rattle.timeline.specs.Until.{least_by, coming_bound, bound_if}
use Rattle.timeline.proofs.Leasts.{least_by_more}
use Rattle.timeline.proofs.until.first_clash.Goals as goal

pub loop-next-init : goal.loop-next-init
loop-next-init c = refl

pub loop-next-preserved : goal.loop-next-preserved
loop-next-preserved c =
    let f = coming_bound (clashes c.args.standing.now.present c.args.held.now) in
    let fits : FitsSigned w64 c.next-item.result.date = search rules in
    c.lesser-first.ensures
    ∙ (λ i. lesser (c.loop-next.invariant i) ((c.bound_if.ensures ∙ ap (bound_if c.clashes.result) (to_z-of_z w64 c.next-item.result.date fits) ∙ ap (λ b. bound_if b c.next-item.result.date) c.clashes.ensures) i))
    ∙ sym (least_by_more f c.args.coming.now c.loop-next.next-index c.next-item.result c.loop-next-test.true c.next-item.is)

pub returns : goal.returns
returns c =
    let f = coming_bound (clashes c.args.standing.now.present c.args.held.now) in
    c.loop-next.invariant ∙ ap (least_by f) (take_all c.loop-next.next-index c.args.coming.now (omega arith))
