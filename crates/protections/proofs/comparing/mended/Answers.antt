use Rattle.std.proofs.Common.{◌≡◌, ◌∙◌, ◌++◌, [], ap, sym, map, arith}
use Rattle.std.specs.Prelude.{Some, slice_get}
use Rattle.std.specs.List.{cons_option, filter_map}
use Rattle.std.specs.Option.{option_copied}
use Rattle.std.proofs.lemmas.List.{take_all}
use Rattle.std.proofs.lemmas.Option.{slice_get_within, get_or_from_slice_get}
use Rattle.tmm_model.specs.Answers.{report_of}
use Rattle.protections.specs.Reported.{mended_of}
use Rattle.protections.proofs.Turns.{filter_map-next, mended-is}
use Rattle.protections.proofs.comparing.mended.Goals as goal

pub loop-i-preserved : goal.loop-i-preserved
loop-i-preserved c =
    let ps = c.args.standing.now.present.premises in
    let i = c.loop-i.i in
    let p = c.in-Some.premise.now in
    let told = mended_of (map report_of c.args.before.now) (map report_of c.args.after.now) in
    let at : slice_get ps i ≡ Some p = sym c.at.ensures ∙ ap option_copied c.in-Some.is in
    c.in_ok-push_some-in-Some.ensures
    ∙ (λ j. c.loop-i.invariant j ++ cons_option (c.mended_name.ensures j) [])
    ∙ sym (filter_map-next told ps i p p (slice_get_within ps i p at) (get_or_from_slice_get ps i p p at))

pub returns : goal.returns
returns c =
    let ps = c.args.standing.now.present.premises in
    let before = map report_of c.args.before.now in
    let after = map report_of c.args.after.now in
    c.loop-i.invariant ∙ ap (filter_map (mended_of before after)) (take_all c.loop-i.i ps (omega (arith, c.loop-i-test.false, c.len-i-end.ensures.value))) ∙ mended-is before after ps
