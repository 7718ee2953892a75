use Rattle.std.proofs.Common.{◌∙◌, ◌++◌, [], sym}
use Rattle.std.specs.List.{cons_option}
use Rattle.protections.specs.Reviews.{mends_of}
use Rattle.protections.proofs.Turns.{filter_map-next}
use Rattle.protections.proofs.review.mended.Goals as goal

pub loop-one-preserved : goal.loop-one-preserved
loop-one-preserved c =
    let rs = c.args.reviewed.now in
    let i = c.loop-one.one-index in
    let r = c.one-item.result in
    c.in_ok-push_some.ensures
    ∙ (λ j. c.loop-one.invariant j ++ cons_option (c.mended_name.ensures j) [])
    ∙ sym (filter_map-next mends_of rs i r r c.loop-one-test.true (sym c.one-item.is))
