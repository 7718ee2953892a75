use Rattle.std.proofs.Common.{◌∙◌, ◌++◌, [], ap, sym, map}
use Rattle.std.specs.List.{cons_option}
use Rattle.tmm_model.specs.Answers.{report_of}
use Rattle.protections.specs.Reviews.{news_of}
use Rattle.protections.proofs.Turns.{filter_map-next, map-cons_option}
use Rattle.protections.proofs.review.newly_broken.Goals as goal

pub loop-one-preserved : goal.loop-one-preserved
loop-one-preserved c =
    let rs = c.args.reviewed.now in
    let i = c.loop-one.one-index in
    let r = c.one-item.result in
    ap (map report_of) c.in_ok-push_some.ensures
    ∙ map-cons_option report_of c.loop-one.found.items c.in_ok-new_report.field-0
    ∙ (λ j. c.loop-one.invariant j ++ cons_option (c.in_ok-new_report.ensures j) [])
    ∙ sym (filter_map-next news_of rs i r r c.loop-one-test.true (sym c.one-item.is))
