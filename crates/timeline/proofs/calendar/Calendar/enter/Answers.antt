use Rattle.std.proofs.Common.{◌∙◌, ◌+◌, ap, subst}
use Rattle.std.proofs.lemmas.Result.{err_from_is_err_and}
use Rattle.tmm_model.specs.Maps.{built}
use Rattle.timeline.specs.Told.{IsTooLarge}
use Rattle.timeline.proofs.Calendars.{row_weight, Brought-one}
use Rattle.timeline.proofs.calendar.Calendar.enter.Goals as goal

pub returns-in_err-size-clause-stops : goal.returns-in_err-size-clause-stops
returns-in_err-size-clause-stops c =
    let p = err_from_is_err_and c.from_residual.result c.from_residual.ensures.1 in
    rw (p.1, p.2)
    (subst (λ n. IsTooLarge (c.args.self.now.size + n) c.in_err-size.field-0.0) (row_weight c.args.standing.now.present c.args.row c.at.result.now c.at.ensures.value) c.in_err-size.ensures.stops)

pub returns-clause-ok : goal.returns-clause-ok
returns-clause-ok c =
    Brought-one (built c.args.standing.now.present) c.args.row c.args.self.now c.place.new.self c.in_ok-size.size c.requires.row c.in_ok-place.ensures.ok
    (c.in_ok-size.ensures.ok.0 ∙ ap (λ n. c.args.self.now.size + n) (row_weight c.args.standing.now.present c.args.row c.at.result.now c.at.ensures.value)) c.in_ok-size.ensures.ok.1
