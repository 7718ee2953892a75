use Rattle.std.proofs.Common.{◌≡◌, ◌∙◌, ◌+◌, ◌≤◌, suc, take, length, sym, ap, subst, arith}
use Rattle.std.specs.Prelude.{Some, None, slice_get}
use Rattle.std.specs.List.{filter_map}
use Rattle.std.specs.Option.{option_copied}
use Rattle.std.proofs.lemmas.List.{take_all}
use Rattle.std.proofs.lemmas.Result.{err_from_is_err_and}
use Rattle.tmm_model.specs.Beliefs.{root_of}
use Rattle.tmm_model.specs.Maps.{built}
use Rattle.tmm_model.specs.Standing.{Standing}
use Rattle.timeline.specs.Calendars.{Brought}
use Rattle.timeline.proofs.AtPlaces.{stands, not_none}
use Rattle.timeline.proofs.Calendars.{Brought-none}
use Rattle.timeline.proofs.Starting.{one_premise, roots_too_large, started}
use Rattle.timeline.proofs.roots.declared.Goals as goal
use Rattle.timeline.proofs.roots.declared.Goals.{in-Some+in_ok-declare, in_default}

pub loop-place-init : goal.loop-place-init
loop-place-init g c = Brought-none (built (g.M.MapCore.list c.args.core.now)) c.in_ok-calendar.calendar (omega (arith, c.in_ok-calendar.ensures.size))

pub declare-requires-clause-stands : goal.declare-requires-clause-stands
declare-requires-clause-stands g c =
    let s = g.M.MapCore.list c.args.core.now in
    stands s.premises c.loop-place.place c.in-Some.premise.now (sym (ap (λ (l : Standing). slice_get l.premises c.loop-place.place) c.standing-standing.ensures) ∙ sym c.in-Some.ensures)

pub declare-requires-clause-small : goal.declare-requires-clause-small
declare-requires-clause-small g c = c.loop-place.invariant.small

pub returns-in_err-declare-clause-stops : goal.returns-in_err-declare-clause-stops
returns-in_err-declare-clause-stops g c =
    let s = g.M.MapCore.list c.args.core.now in
    let p = err_from_is_err_and c.from_residual-in_err-declare.result c.from_residual-in_err-declare.ensures.1 in
    rw (p.1, p.2)
    (roots_too_large s c.loop-place.place c.in-Some.premise.now (sym (ap (λ (l : Standing). slice_get l.premises c.loop-place.place) c.standing-standing.ensures) ∙ sym c.in-Some.ensures)
    c.in_ok-calendar.calendar c.loop-place.calendar c.in_err-declare.field-0.0 c.in_ok-calendar.ensures.size c.loop-place.invariant c.in_err-declare.ensures.stops)

pub loop-place-preserved : goal.loop-place-preserved
loop-place-preserved g c =
    let s = g.M.MapCore.list c.args.core.now in
    let i = c.loop-place.place in
    elim c.match-at.branch [
      | in-Some+in_ok-declare w ↦
          let at : slice_get s.premises i ≡ Some w.in-Some.premise.now = sym (ap (λ (l : Standing). slice_get l.premises i) c.standing-standing.ensures) ∙ sym w.in-Some.ensures in
          subst (Brought (built s) (filter_map root_of (take (i + 1) s.premises)) c.in_ok-calendar.calendar) (sym w.calendar-is)
          (one_premise s i w.in-Some.premise.now at c.in_ok-calendar.calendar c.loop-place.calendar w.declare.new.calendar c.loop-place.invariant w.in_ok-declare.ensures.ok)
      | in_default w ↦
          let none : None ≡ slice_get c.standing-standing.result.now.present.premises i = sym (ap option_copied w.in_default.is) ∙ c.at.ensures in
          absurd (not_none c.standing-standing.result.now.present.premises i (sym none) (omega (arith, c.len-place-end.ensures.value)))
    ]

pub returns-clause-ok : goal.returns-clause-ok
returns-clause-ok g c =
    let s = g.M.MapCore.list c.args.core.now in
    let all : length s.premises ≤ c.loop-place.place = omega (arith, c.len-place-end.ensures.value, ap (λ (l : Standing). length l.premises) c.standing-standing.ensures) in
    started s c.in_ok-calendar.calendar c.loop-place.calendar (c.in_ok-calendar.ensures.days ∙ ap suc (c.horizon.ensures ∙ ap (λ (l : Standing). l.horizon) c.standing-standing.ensures)) c.in_ok-calendar.ensures.empty c.in_ok-calendar.ensures.later c.in_ok-calendar.ensures.size
    (subst (λ ps. Brought (built s) (filter_map root_of ps) c.in_ok-calendar.calendar c.loop-place.calendar) (take_all c.loop-place.place s.premises all) c.loop-place.invariant)
