use Rattle.std.proofs.Common.{◌≡◌, ◌∙◌, ◌++◌, [], ap, sym, map}
use Rattle.std.specs.Prelude.{Some, slice_get}
use Rattle.std.specs.List.{cons_option}
use Rattle.std.specs.Option.{option_copied}
use Rattle.std.proofs.lemmas.Option.{slice_get_within, get_or_from_slice_get}
use Rattle.tmm_model.specs.Answers.{broken, report_of}
use Rattle.tmm_model.specs.Maps.{built}
use Rattle.protections.proofs.Turns.{filter_map-next, map-cons_option}
use Rattle.protections.proofs.reporting.all_broken.Goals as goal

pub loop-i-preserved : goal.loop-i-preserved
loop-i-preserved c =
    let ps = c.args.map.now.standing.now.present.premises in
    let i = c.loop-i.i in
    let p = c.in-Some.premise.now in
    let at : slice_get ps i ≡ Some p = sym c.at.ensures ∙ ap option_copied c.in-Some.is in
    ap (map report_of) c.in_ok-push_some-in-Some.ensures
    ∙ map-cons_option report_of c.loop-i.found.items c.in_ok-broken-in-Some.field-0
    ∙ (λ j. c.loop-i.invariant j ++ cons_option (c.in_ok-broken-in-Some.ensures j) [])
    ∙ sym (filter_map-next (broken (built c.args.map.now.standing.now.present)) ps i p p (slice_get_within ps i p at) (get_or_from_slice_get ps i p p at))
