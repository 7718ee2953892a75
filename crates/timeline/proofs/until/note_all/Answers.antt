use Rattle.std.proofs.Common.{◌∙◌, take, refl, sym, ap, arith}
use Rattle.std.proofs.lemmas.List.{take_all}
use Rattle.tmm_model.specs.Bounds.{lesser}
use Rattle.timeline.specs.Until.{least_by, coming_bound, row_bound}
use Rattle.timeline.proofs.Leasts.{least_by_more, lesser_assoc, lesser_swap}
use Rattle.timeline.proofs.until.note_all.Goals as goal

pub loop-row-init : goal.loop-row-init
loop-row-init c q = refl

pub loop-row-preserved : goal.loop-row-preserved
loop-row-preserved c q =
    let r = c.row-item.result in
    let old = least_by (coming_bound q) c.args.coming.now.items in
    let front = least_by (row_bound q) (take c.loop-row.row-index c.args.rows.now) in
    let more = least_by_more (row_bound q) c.args.rows.now c.loop-row.row-index r c.loop-row-test.true c.row-item.is in
    c.in_ok-note_row.ensures q ∙ ap (lesser (row_bound q r)) (c.loop-row.invariant q)
    ∙ lesser_swap (row_bound q r) front old ∙ sym (lesser_assoc front (row_bound q r) old)
    ∙ ap (λ x. lesser x old) (sym more)

pub returns : goal.returns
returns c q = c.loop-row.invariant q ∙ ap (λ l. lesser (least_by (row_bound q) l) (least_by (coming_bound q) c.args.coming.now.items)) (take_all c.loop-row.row-index c.args.rows.now (omega arith))
