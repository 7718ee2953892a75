use Rattle.std.proofs.Common.{◌∙◌, refl, sym, arith, rules, w64, to_z, of_z}
use Rattle.std.specs.Prelude.{FitsSigned}
use Rattle.std.proofs.lemmas.Int.{to_z-of_z}
use Rattle.std.proofs.lemmas.List.{take_all}
use Rattle.tmm_model.specs.Bounds.{lesser}
use Rattle.timeline.specs.Rows.{clashes}
use Rattle.timeline.specs.Until.{least_by, later_bound}
use Rattle.timeline.proofs.Leasts.{least_by_more}
use Rattle.timeline.proofs.until.first_among.Goals as goal

pub loop-row-init : goal.loop-row-init
loop-row-init c = refl

pub loop-row-preserved : goal.loop-row-preserved
loop-row-preserved c =
    let f = later_bound (clashes c.args.standing.now.present c.args.held.now) (to_z w64 (of_z w64 c.args.date)) in
    c.lesser-first.ensures
    ∙ (λ i. lesser (c.loop-row.invariant i) (c.date_if.ensures i))
    ∙ sym (least_by_more f c.args.rows.now c.loop-row.row-index c.row-item.result c.loop-row-test.true c.row-item.is)

pub returns : goal.returns
returns c =
    let fits : FitsSigned w64 c.args.date = search rules in
    c.loop-row.invariant
    ∙ (λ i. least_by (later_bound (clashes c.args.standing.now.present c.args.held.now) (to_z-of_z w64 c.args.date fits i)) (take_all c.loop-row.row-index c.args.rows.now (omega arith) i))
