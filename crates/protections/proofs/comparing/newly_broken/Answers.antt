use Rattle.std.proofs.Common.{◌∙◌, ◌++◌, [], ap, sym, map}
use Rattle.std.specs.List.{cons_option, filter_map}
use Rattle.std.proofs.lemmas.List.{take_all}
use Rattle.tmm_model.specs.Answers.{report_of}
use Rattle.protections.specs.Reported.{new_of}
use Rattle.protections.proofs.Turns.{map-cons_option, filter_map-mapped, newly_broken-is}
use Rattle.protections.proofs.comparing.newly_broken.Goals as goal

pub loop-report-preserved : goal.loop-report-preserved
loop-report-preserved c =
    let rs = c.args.after.now in
    let i = c.loop-report.report-index in
    let r = c.report-item.result in
    let told = new_of (map report_of c.args.before.now) in
    ap (map report_of) c.in_ok-push_some.ensures
    ∙ map-cons_option report_of c.loop-report.found.items c.in_ok-new_report.field-0
    ∙ (λ j. c.loop-report.invariant j ++ cons_option (c.in_ok-new_report.ensures j) [])
    ∙ sym (filter_map-mapped told report_of rs i r r c.loop-report-test.true (sym c.report-item.is))

pub returns : goal.returns
returns c =
    let before = map report_of c.args.before.now in
    c.loop-report.invariant
    ∙ ap (λ l. filter_map (new_of before) (map report_of l)) (take_all c.loop-report.report-index c.args.after.now c.loop-report-test.false)
    ∙ newly_broken-is before (map report_of c.args.after.now)
