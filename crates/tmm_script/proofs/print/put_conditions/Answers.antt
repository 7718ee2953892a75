use Rattle.std.proofs.Common.{sym}
use Rattle.std.specs.Prelude.{codes}
use Rattle.std.proofs.lemmas.Result.{on_ok_weaker, on_err_weaker}
use Rattle.tmm_model.specs.Lines.{facts_words}
use Rattle.tmm_script.proofs.Printing.{wrote_both, front_of_first, front_of_second, on_err}
use Rattle.tmm_script.proofs.print.put_conditions.Goals as goal

pub returns-in_err-put_behind-clause-err : goal.returns-in_err-put_behind-clause-err
returns-in_err-put_behind-clause-err c =
    on_err c.from_residual.result
    (rw (sym c.as_slice.ensures.value)
    (front_of_first c.args.out.now.items c.put_behind.new.out.items (facts_words (codes "if") c.as_slice.result.now) (facts_words (codes "unless") c.args.exceptions.now.items)
    c.in_err-put_behind.ensures.err))

pub returns-clause-ok : goal.returns-clause-ok
returns-clause-ok c =
    rw (sym c.as_slice.ensures.value, sym c.as_slice-2.ensures.value)
    (on_ok_weaker c.put_behind-2.result
    (wrote_both c.args.out.now.items c.put_behind-2.new.out.items (facts_words (codes "if") c.as_slice.result.now) (facts_words (codes "unless") c.as_slice-2.result.now)
    c.put_behind.new.out.items c.in_ok-put_behind.ensures.ok)
    c.put_behind-2.ensures.ok)

pub returns-clause-err : goal.returns-clause-err
returns-clause-err c =
    rw (sym c.as_slice.ensures.value, sym c.as_slice-2.ensures.value)
    (on_err_weaker c.put_behind-2.result
    (front_of_second c.args.out.now.items c.put_behind-2.new.out.items (facts_words (codes "if") c.as_slice.result.now) (facts_words (codes "unless") c.as_slice-2.result.now)
    c.put_behind.new.out.items c.in_ok-put_behind.ensures.ok)
    c.put_behind-2.ensures.err)
