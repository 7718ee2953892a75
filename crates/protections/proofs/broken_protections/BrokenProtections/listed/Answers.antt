use Rattle.std.proofs.Common.{◌≡◌, ◌∙◌, ◌++◌, [], ap, sym, map}
use Rattle.list_theory.proofs.Elements.{In-slice_get}
use Rattle.std.specs.Prelude.{Some, slice_get}
use Rattle.std.specs.List.{cons_option}
use Rattle.std.specs.Option.{option_copied}
use Rattle.std.proofs.lemmas.Option.{slice_get_within, get_or_from_slice_get}
use Rattle.tmm_model.specs.Answers.{broken, report_of}
use Rattle.tmm_model.specs.Maps.{built}
use Rattle.tmm_model.specs.Standing.{name_of}
use Rattle.protections.specs.Found.{found_in}
use Rattle.protections.proofs.ReportNames.{report_found}
use Rattle.protections.proofs.Turns.{filter_map-next, map-cons_option}
use Rattle.protections.proofs.broken_protections.BrokenProtections.listed.Goals as goal

pub loop-i-preserved : goal.loop-i-preserved
loop-i-preserved c =
    let ps = c.args.standing.now.present.premises in
    let i = c.loop-i.i in
    let p = c.in-Some.premise.now in
    let at : slice_get ps i ≡ Some p = sym c.at.ensures ∙ ap option_copied c.in-Some.is in
    let own : found_in c.args.self.now (name_of p) ≡ broken (built c.args.standing.now.present) p =
    c.requires.found (name_of p) ∙ report_found (built c.args.standing.now.present) c.requires.named p (In-slice_get ps i p at) in
    ap (map report_of) c.in_ok-push_some-in-Some.ensures
    ∙ map-cons_option report_of c.loop-i.found.items c.in_ok-report_of-in-Some.field-0
    ∙ (λ j. c.loop-i.invariant j ++ cons_option ((c.in_ok-report_of-in-Some.ensures ∙ own) j) [])
    ∙ sym (filter_map-next (broken (built c.args.standing.now.present)) ps i p p (slice_get_within ps i p at) (get_or_from_slice_get ps i p p at))
