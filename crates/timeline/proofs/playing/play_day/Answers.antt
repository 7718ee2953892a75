use Rattle.std.proofs.Common.{◌+◌, List, map, refl, sym, subst}
use Rattle.std.specs.List.{flat_map}
use Rattle.std.specs.Prelude.{sum_by}
use Rattle.std.proofs.lemmas.Result.{err_from_is_err_and}
use Rattle.tmm_model.specs.Answers.{weight}
use Rattle.tmm_model.specs.Maps.{built}
use Rattle.timeline.specs.declared.calendar.Calendar.{Calendar}
use Rattle.timeline.specs.declared.row.Held.{Held}
use Rattle.timeline.specs.declared.row.Row.{Row}
use Rattle.timeline.specs.Calendars.{Brought}
use Rattle.timeline.specs.Days.{effects_of}
use Rattle.timeline.specs.Holding.{is_held, IsHeldOn}
use Rattle.timeline.specs.Rows.{moment, helds, AreRowsOf}
use Rattle.timeline.specs.Told.{IsTooLarge}
use Rattle.timeline.proofs.DayByDay.{today_rows, held_next, day_too_large, day_played}
use Rattle.timeline.proofs.playing.play_day.Goals as goal

pub bring_all-requires-clause-rows : goal.bring_all-requires-clause-rows
bring_all-requires-clause-rows c =
    let s = c.args.standing.now.present in
    subst (AreRowsOf (built s)) (sym c.as_slice-3.ensures.value)
    (today_rows s c.requires.kept c.args.day c.requires.in_time c.args.calendar.now c.requires.before c.take_out-today.result.items c.take_out-today.ensures.taken c.args.before.now c.in_ok-holding.holding.items c.requires.holding
    (subst (λ rows. IsHeldOn s c.args.day (helds rows) c.args.before.now c.in_ok-holding.holding.items) c.as_slice.ensures.value c.in_ok-holding.ensures))

pub returns-in_err-bring_all-clause-stops : goal.returns-in_err-bring_all-clause-stops
returns-in_err-bring_all-clause-stops c =
    let s = c.args.standing.now.present in
    let p = err_from_is_err_and c.from_residual-in_err-bring_all.result c.from_residual-in_err-bring_all.ensures.1 in
    rw (p.1, p.2)
    (day_too_large s c.requires.kept c.args.day c.requires.in_time c.args.calendar.now c.requires.before c.take_out-today.result.items c.take_out-today.ensures.taken c.args.before.now c.in_ok-holding.holding.items c.requires.holding
    (subst (λ rows. IsHeldOn s c.args.day (helds rows) c.args.before.now c.in_ok-holding.holding.items) c.as_slice.ensures.value c.in_ok-holding.ensures)
    c.in_err-bring_all.field-0.0
    (subst (λ (rows : List Row). IsTooLarge (c.args.calendar.now.size + sum_by (weight (built s)) (flat_map (effects_of (built s) (is_held c.in_ok-holding.holding.items)) (map moment rows))) c.in_err-bring_all.field-0.0) c.as_slice-3.ensures.value
    (subst (λ (holding : List Held). IsTooLarge (c.args.calendar.now.size + sum_by (weight (built s)) (flat_map (effects_of (built s) (is_held holding)) (map moment c.as_slice-3.result.now))) c.in_err-bring_all.field-0.0) c.as_slice-2.ensures.value
    c.in_err-bring_all.ensures.stops)))

pub returns-clause-ok : goal.returns-clause-ok
returns-clause-ok c =
    let s = c.args.standing.now.present in
    let c1 : Calendar = record { days = c.take_out-today.new.days; later = c.args.calendar.now.later; size = c.args.calendar.now.size } in
    day_played s c.requires.kept c.args.day c.requires.in_time c.args.calendar.now c.requires.before c.take_out-today.result.items c.take_out-today.ensures.taken c.args.before.now c.in_ok-holding.holding.items c.requires.holding
    (subst (λ rows. IsHeldOn s c.args.day (helds rows) c.args.before.now c.in_ok-holding.holding.items) c.as_slice.ensures.value c.in_ok-holding.ensures)
    c1 c.bring_all.new.calendar (record { days = c.put_back.new.days; later = c.bring_all.new.calendar.later; size = c.bring_all.new.calendar.size })
    c.take_out-today.ensures.none c.take_out-today.ensures.len c.take_out-today.ensures.others refl refl
    (subst (λ (rows : List Row). Brought (built s) (flat_map (effects_of (built s) (is_held c.in_ok-holding.holding.items)) (map moment rows)) c1 c.bring_all.new.calendar) c.as_slice-3.ensures.value
    (subst (λ (holding : List Held). Brought (built s) (flat_map (effects_of (built s) (is_held holding)) (map moment c.as_slice-3.result.now)) c1 c.bring_all.new.calendar) c.as_slice-2.ensures.value
    c.in_ok-bring_all.ensures.ok))
    c.put_back.ensures.put c.put_back.ensures.len c.put_back.ensures.others refl refl

pub returns-clause-holding : goal.returns-clause-holding
returns-clause-holding c =
    let s = c.args.standing.now.present in
    held_next s c.requires.kept c.args.day c.requires.in_time c.args.calendar.now c.requires.before c.take_out-today.result.items c.take_out-today.ensures.taken c.args.before.now c.in_ok-holding.holding.items c.requires.holding
    (subst (λ rows. IsHeldOn s c.args.day (helds rows) c.args.before.now c.in_ok-holding.holding.items) c.as_slice.ensures.value c.in_ok-holding.ensures)
