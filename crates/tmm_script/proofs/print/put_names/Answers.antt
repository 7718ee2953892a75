use Rattle.tmm_script.proofs.Printing.{wrote_front, item_at, on_err}
use Rattle.tmm_script.proofs.print.put_names.Goals as goal

pub returns-in_err-put_field-clause-err : goal.returns-in_err-put_field-clause-err
returns-in_err-put_field-clause-err c =
    let i = c.loop-name.name-index in
    on_err c.from_residual.result (wrote_front c.args.out.now.items c.loop-name.out.items c.put_field.new.out.items c.args.names.now i c.name-item.result c.loop-name.invariant (item_at c.args.names.now i c.name-item.result c.loop-name-test.true c.name-item.is) c.in_err-put_field.ensures.err)
