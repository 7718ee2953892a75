use Rattle.std.proofs.Common.{subst, arith}
use Rattle.std.proofs.lemmas.List.{take_all}
use Rattle.std.proofs.lemmas.Result.{err_from_is_err_and}
use Rattle.tmm_model.specs.Maps.{built}
use Rattle.timeline.specs.Calendars.{Brought}
use Rattle.timeline.specs.Holding.{is_held}
use Rattle.timeline.proofs.Bringing.{all_brought, at_index, one_event, event_too_large}
use Rattle.timeline.proofs.Calendars.{Brought-none}
use Rattle.timeline.proofs.playing.bring_all.Goals as goal

pub loop-row-init : goal.loop-row-init
loop-row-init c = Brought-none (built c.args.standing.now.present) c.args.calendar.now c.requires.small

pub bring-requires-clause-row : goal.bring-requires-clause-row
bring-requires-clause-row c = c.requires.rows c.row-item.result (at_index c.args.today.now c.loop-row.row-index c.row-item.result c.loop-row-test.true c.row-item.is)

pub bring-requires-clause-small : goal.bring-requires-clause-small
bring-requires-clause-small c = c.loop-row.invariant.small

pub returns-in_err-bring-clause-stops : goal.returns-in_err-bring-clause-stops
returns-in_err-bring-clause-stops c =
    let p = err_from_is_err_and c.from_residual.result c.from_residual.ensures.1 in
    rw (p.1, p.2)
    (event_too_large (built c.args.standing.now.present) (is_held c.args.holding.now) c.args.today.now c.loop-row.row-index c.row-item.result c.loop-row-test.true c.row-item.is
    c.args.calendar.now c.loop-row.calendar c.in_err-bring.field-0.0 c.loop-row.invariant c.in_err-bring.ensures.stops)

pub loop-row-preserved : goal.loop-row-preserved
loop-row-preserved c =
    one_event (built c.args.standing.now.present) (is_held c.args.holding.now) c.args.today.now c.loop-row.row-index c.row-item.result c.loop-row-test.true c.row-item.is
    c.args.calendar.now c.loop-row.calendar c.bring.new.calendar c.loop-row.invariant c.in_ok-bring.ensures.ok

pub returns-clause-ok : goal.returns-clause-ok
returns-clause-ok c =
    subst (λ rows. Brought (built c.args.standing.now.present) (all_brought (built c.args.standing.now.present) (is_held c.args.holding.now) rows) c.args.calendar.now c.loop-row.calendar)
    (take_all c.loop-row.row-index c.args.today.now (omega arith)) c.loop-row.invariant
