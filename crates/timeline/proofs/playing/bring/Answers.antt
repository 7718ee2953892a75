use Rattle.std.proofs.Common.{◌∙◌, ◌+◌, map, ap, subst, arith}
use Rattle.std.specs.Prelude.{sum_by}
use Rattle.std.proofs.lemmas.List.{take_all}
use Rattle.std.proofs.lemmas.Result.{err_from_is_err_and}
use Rattle.tmm_model.specs.Answers.{weight}
use Rattle.tmm_model.specs.Maps.{built}
use Rattle.timeline.specs.Calendars.{Brought}
use Rattle.timeline.specs.Holding.{is_held}
use Rattle.timeline.specs.Kinds.{name_at}
use Rattle.timeline.specs.Rows.{moment}
use Rattle.timeline.specs.Told.{IsTooLarge}
use Rattle.timeline.proofs.Bringing.{brought, one_rule, rule_too_large}
use Rattle.timeline.proofs.Calendars.{Brought-none}
use Rattle.timeline.proofs.playing.bring.Goals as goal

pub loop-place-init : goal.loop-place-init
loop-place-init c = Brought-none (built c.args.standing.now.present) c.args.calendar.now c.requires.small

pub bring_one-requires-clause-small : goal.bring_one-requires-clause-small
bring_one-requires-clause-small c = c.loop-place.invariant.small

pub returns-in_err-bring_one-clause-stops : goal.returns-in_err-bring_one-clause-stops
returns-in_err-bring_one-clause-stops c =
    let s = c.args.standing.now.present in
    let p = err_from_is_err_and c.from_residual.result c.from_residual.ensures.1 in
    rw (p.1, p.2)
    (subst (λ names. IsTooLarge (c.args.calendar.now.size + sum_by (weight (built s)) (brought (built s) (is_held c.args.holding.now) (moment c.args.trigger.now) names)) c.in_err-bring_one.field-0.0)
    c.at-place-items.ensures.value
    (rule_too_large (built s) (is_held c.args.holding.now) (moment c.args.trigger.now) (name_at s) c.at-place-items.result.now c.loop-place.place-index c.loop-place-test.true
    c.args.calendar.now c.loop-place.calendar c.in_err-bring_one.field-0.0 c.loop-place.invariant c.in_err-bring_one.ensures.stops))

pub loop-place-preserved : goal.loop-place-preserved
loop-place-preserved c =
    one_rule (built c.args.standing.now.present) (is_held c.args.holding.now) (moment c.args.trigger.now) (name_at c.args.standing.now.present) c.at-place-items.result.now c.loop-place.place-index c.loop-place-test.true
    c.args.calendar.now c.loop-place.calendar c.bring_one.new.calendar c.loop-place.invariant c.in_ok-bring_one.ensures.ok

pub returns-clause-ok : goal.returns-clause-ok
returns-clause-ok c =
    let s = c.args.standing.now.present in
    subst (λ names. Brought (built s) (brought (built s) (is_held c.args.holding.now) (moment c.args.trigger.now) names) c.args.calendar.now c.loop-place.calendar)
    (ap (map (name_at s)) (take_all c.loop-place.place-index c.at-place-items.result.now (omega arith)) ∙ c.at-place-items.ensures.value)
    c.loop-place.invariant
