use Rattle.std.proofs.Common.{◌≡◌, ◌∙◌, ◌++◌, ◌∷◌, [], map, take, sym, ap, subst, append-nil, append_assoc, arith, rules, w64}
use Rattle.std.specs.Prelude.{FitsSigned}
use Rattle.std.proofs.lemmas.Int.{to_z-of_z}
use mir.Val.{to_z, of_z}
use Rattle.std.proofs.lemmas.List.{map-append, take_more, take_all}
use Rattle.tmm_model.specs.declared.point.PointName.{PointName}
use Rattle.tmm_model.specs.Maps.{built}
use Rattle.tmm_model.specs.Moments.{At}
use Rattle.list_theory.proofs.Elements.{In}
use Rattle.timeline.specs.Days.{date, point_date}
use Rattle.timeline.specs.Told.{date_of}
use Rattle.timeline.proofs.Bringing.{at_index}
use Rattle.timeline.proofs.Declared.{point_askable}
use Rattle.timeline.proofs.dates.add_points.Goals as goal

pub loop-point-init : goal.loop-point-init
loop-point-init g c = sym (append-nil (map date_of c.args.dates.now.items))

pub date_of-date-requires-clause-formed : goal.date_of-date-requires-clause-formed
date_of-date-requires-clause-formed g c =
    (point_askable (g.M.MapCore.list c.args.core.now) c.requires.kept.sound c.args.premise.now c.requires.stands c.point-item.result
    (subst (In c.point-item.result) (c.as_slice-point-items.ensures.value ∙ c.points.ensures) (at_index c.as_slice-point-items.result.now c.loop-point.point-index c.point-item.result c.loop-point-test.true c.point-item.is))).formed

pub date_of-date-requires-clause-declared : goal.date_of-date-requires-clause-declared
date_of-date-requires-clause-declared g c =
    (point_askable (g.M.MapCore.list c.args.core.now) c.requires.kept.sound c.args.premise.now c.requires.stands c.point-item.result
    (subst (In c.point-item.result) (c.as_slice-point-items.ensures.value ∙ c.points.ensures) (at_index c.as_slice-point-items.result.now c.loop-point.point-index c.point-item.result c.loop-point-test.true c.point-item.is))).declared

pub loop-point-preserved : goal.loop-point-preserved
loop-point-preserved g c =
    let m = built (g.M.MapCore.list c.args.core.now) in
    let points = c.as_slice-point-items.result.now in
    let i = c.loop-point.point-index in
    let p = c.point-item.result in
    let old = map date_of c.args.dates.now.items in
    let fits : FitsSigned w64 c.date_of-date.result = search rules in
    let dated : to_z w64 (of_z w64 c.date_of-date.result) ≡ date m (At p) = to_z-of_z w64 c.date_of-date.result fits ∙ c.date_of-date.ensures in
    ap (map date_of) c.in_ok-append.ensures.ok
    ∙ map-append date_of c.loop-point.dates.items (record { point = p; date = to_z w64 (of_z w64 c.date_of-date.result) } ∷ [])
    ∙ (λ k. c.loop-point.invariant k ++ (p, dated k) ∷ [])
    ∙ append_assoc old (map (point_date m) (take i points)) (point_date m p ∷ [])
    ∙ ap (λ l. old ++ l)
    (sym (ap (map (point_date m)) (take_more points i p c.loop-point-test.true ∙ ap (λ (y : PointName). take i points ++ y ∷ []) (sym c.point-item.is)) ∙ map-append (point_date m) (take i points) (p ∷ [])))

pub returns : goal.returns
returns g c =
    let m = built (g.M.MapCore.list c.args.core.now) in
    c.loop-point.invariant
    ∙ ap (λ l. map date_of c.args.dates.now.items ++ map (point_date m) l) (take_all c.loop-point.point-index c.as_slice-point-items.result.now (omega arith) ∙ c.as_slice-point-items.ensures.value ∙ c.points.ensures)
