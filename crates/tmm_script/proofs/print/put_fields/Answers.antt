use Rattle.std.proofs.Common.{map}
use Rattle.tmm_script.specs.Printed.{field_word}
use Rattle.tmm_script.proofs.Printing.{wrote_more, wrote_front, word_at, on_err}
use Rattle.tmm_script.proofs.print.put_fields.Goals as goal

pub returns-in_err-put_field-clause-err : goal.returns-in_err-put_field-clause-err
returns-in_err-put_field-clause-err c =
    let i = c.loop-field.field-index in
    on_err c.from_residual.result (wrote_front c.args.out.now.items c.loop-field.out.items c.put_field.new.out.items (map field_word c.args.fields.now) i (field_word c.field-item.result) c.loop-field.invariant (word_at field_word c.args.fields.now i c.field-item.result c.loop-field-test.true c.field-item.is) c.in_err-put_field.ensures.err)

pub loop-field-preserved : goal.loop-field-preserved
loop-field-preserved c =
    let i = c.loop-field.field-index in
    wrote_more c.args.out.now.items c.loop-field.out.items c.put_field.new.out.items (map field_word c.args.fields.now) i (field_word c.field-item.result) c.loop-field.invariant (word_at field_word c.args.fields.now i c.field-item.result c.loop-field-test.true c.field-item.is) c.in_ok-put_field.ensures.ok
