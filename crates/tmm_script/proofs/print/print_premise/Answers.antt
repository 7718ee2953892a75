use Rattle.std.proofs.Common.{◌≡◌, map, ap, ◌∙◌}
use Rattle.std.proofs.lemmas.Result.{on_err_weaker}
use Rattle.tmm_script.specs.Printed.{field_word, head_words}
use Rattle.tmm_script.proofs.Printing.{front_of_fields, front_of_facts, on_err}
use Rattle.tmm_script.proofs.print.print_premise.Goals as goal

pub returns-in_err-put_fields-clause-err : goal.returns-in_err-put_fields-clause-err
returns-in_err-put_fields-clause-err c =
    let heads : map field_word c.as_slice.result.now ≡ head_words c.args.premise.now = ap (map field_word) c.as_slice.ensures.value ∙ c.fields.ensures in
    on_err c.from_residual-in_err-put_fields.result
    (front_of_fields c.args.premise.now c.args.out.now.items c.extend.new.self.items c.keyword.result.now (map field_word c.as_slice.result.now) c.keyword.ensures heads c.in_ok-extend.ensures.ok c.put_fields.new.out.items c.in_err-put_fields.ensures.err)

pub returns-clause-err : goal.returns-clause-err
returns-clause-err c =
    let heads : map field_word c.as_slice.result.now ≡ head_words c.args.premise.now = ap (map field_word) c.as_slice.ensures.value ∙ c.fields.ensures in
    on_err_weaker c.put_facts.result
    (front_of_facts c.args.premise.now c.args.out.now.items c.extend.new.self.items c.keyword.result.now (map field_word c.as_slice.result.now) c.keyword.ensures heads c.in_ok-extend.ensures.ok c.put_fields.new.out.items c.put_facts.new.out.items c.in_ok-put_fields.ensures.ok)
    c.put_facts.ensures.err
