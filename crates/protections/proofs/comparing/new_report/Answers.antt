use Rattle.std.proofs.Common.{◌∙◌, ap, sym, map}
use Rattle.std.specs.Prelude.{Some}
use Rattle.tmm_model.specs.Answers.{report_of}
use Rattle.protections.proofs.Turns.{reported-is, new_of-reported, new_of-other}
use Rattle.protections.proofs.comparing.new_report.Goals as goal

pub returns-then-is_reported : goal.returns-then-is_reported
returns-then-is_reported c =
    let before = map report_of c.args.before.now in
    sym (new_of-reported before (report_of c.args.report.now) (sym (reported-is c.args.before.now c.args.report.now.name) ∙ sym c.is_reported.ensures ∙ c.if-is_reported.true))

pub returns-in-Ok : goal.returns-in-Ok
returns-in-Ok c =
    let before = map report_of c.args.before.now in
    ap (λ r. Some r) c.in-Ok.ensures
    ∙ sym (new_of-other before (report_of c.args.report.now) (sym (reported-is c.args.before.now c.args.report.now.name) ∙ sym c.is_reported.ensures ∙ c.if-is_reported.false))
