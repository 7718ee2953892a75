use Rattle.std.proofs.Common.{◌≡◌, ◌∙◌, ◌++◌, map, length, ◌≤◌, sym, ap, arith}
use Rattle.std.specs.Prelude.{Some, None, slice_get}
use Rattle.std.specs.List.{flat_map}
use Rattle.std.specs.Option.{option_copied}
use Rattle.std.proofs.lemmas.List.{take_all}
use Rattle.tmm_model.specs.Maps.{built}
use Rattle.tmm_model.specs.Standing.{Standing, points_of}
use Rattle.timeline.specs.Days.{point_date}
use Rattle.timeline.specs.Told.{date_of}
use Rattle.timeline.proofs.AtPlaces.{stands, not_none}
use Rattle.timeline.proofs.Starting.{more_points}
use Rattle.timeline.proofs.dates.point_dates.Goals as goal
use Rattle.timeline.proofs.dates.point_dates.Goals.{in-Some+in_ok-add_points, in_default}

pub loop-place-init : goal.loop-place-init
loop-place-init g c = ap (map date_of) c.make-dates.ensures

pub add_points-requires-clause-stands : goal.add_points-requires-clause-stands
add_points-requires-clause-stands g c =
    let s = g.M.MapCore.list c.args.core.now in
    stands s.premises c.loop-place.place c.in-Some.premise.now (sym (ap (λ (l : Standing). slice_get l.premises c.loop-place.place) c.standing-standing.ensures) ∙ sym c.in-Some.ensures)

pub loop-place-preserved : goal.loop-place-preserved
loop-place-preserved g c =
    let s = g.M.MapCore.list c.args.core.now in
    let i = c.loop-place.place in
    elim c.match-at.branch [
      | in-Some+in_ok-add_points w ↦
          let at : slice_get s.premises i ≡ Some w.in-Some.premise.now = sym (ap (λ (l : Standing). slice_get l.premises i) c.standing-standing.ensures) ∙ sym w.in-Some.ensures in
          ap (λ d. map date_of d.items) w.dates-is ∙ w.in_ok-add_points.ensures ∙ ap (λ l. l ++ map (point_date (built s)) (points_of w.in-Some.premise.now)) c.loop-place.invariant ∙ sym (more_points s i w.in-Some.premise.now at)
      | in_default w ↦
          let none : None ≡ slice_get c.standing-standing.result.now.present.premises i = sym (ap option_copied w.in_default.is) ∙ c.at.ensures in
          absurd (not_none c.standing-standing.result.now.present.premises i (sym none) (omega (arith, c.len-place-end.ensures.value)))
    ]

pub returns : goal.returns
returns g c =
    let s = g.M.MapCore.list c.args.core.now in
    let all : length s.premises ≤ c.loop-place.place = omega (arith, c.len-place-end.ensures.value, ap (λ (l : Standing). length l.premises) c.standing-standing.ensures) in
    c.loop-place.invariant ∙ ap (λ l. map (point_date (built s)) (flat_map points_of l)) (take_all c.loop-place.place s.premises all)
