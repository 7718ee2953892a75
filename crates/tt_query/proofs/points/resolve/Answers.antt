use Rattle.std.proofs.Common.{refl, ◌∙◌, ap, sym, subst}
use Rattle.tmm_model.specs.declared.point.QueryPoint.{QueryPoint}
use Rattle.tmm_model.specs.Maps.{built}
use Rattle.tmm_model.specs.Questions.{point_cause}
use Rattle.list_theory.proofs.Places.{place_known}
use Rattle.tt_query.specs.Stops.{StopsPoint}
use Rattle.tt_query.proofs.Believed.{no_cause, a_cause, stops_derived}
use Rattle.occ_tree.specs.Places.{forest}
use Rattle.tt_query.proofs.points.resolve.Goals as goal

pub number_of-requires : goal.number_of-requires
number_of-requires c =
    c.requires.seen.seen.network.fits.stands.numbered c.in-Declared.place (place_known c.args.standing.now.present.premises c.in-Declared.place (c.in-Ok.ensures.ok.0 refl))

pub returns-in-Some-clause-known : goal.returns-in-Some-clause-known
returns-in-Some-clause-known c =
    let (m, is, same) = c.in-Some.ensures in
    ap (point_cause (built c.args.standing.now.present)) c.in-Derived.is ∙ no_cause c.args.standing.now.present (forest c.args.tree.now) c.requires.holds c.in-Derived.occ c.in-Some.x m is same

pub returns-in-None-clause-stops : goal.returns-in-None-clause-stops
returns-in-None-clause-stops c =
    let m = built c.args.standing.now.present in
    subst (λ (p : QueryPoint). StopsPoint m p c.unknown.result) (sym c.in-Derived.is)
    (stops_derived m c.in-Derived.occ c.unknown.result (a_cause c.args.standing.now.present (forest c.args.tree.now) c.requires.holds c.in-Derived.occ c.in-None.ensures) c.unknown.ensures.stops)
