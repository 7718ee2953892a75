use Rattle.std.proofs.Common.{◌≡◌, ◌∙◌, true, false, pos, sym, ap, subst, rules, w64}
use Rattle.std.specs.Int.RustNames.{FitsSigned}
use Rattle.std.proofs.lemmas.Int.{to_z-of_z}
use Rattle.tmm_model.specs.declared.bound.Bound.{Bound}
use Rattle.tmm_model.specs.Bounds.{bound_at_most}
use Rattle.tmm_model.specs.Maps.{built}
use Rattle.tmm_model.specs.Paths.{WalksIf}
use Rattle.tmm_model.specs.Reasons.{by_order}
use Rattle.spots.specs.Spots.{spot_moment}
use Rattle.occ_tree.specs.Places.{forest}
use Rattle.spots.proofs.Seen.{distance_is}
use Rattle.justify.proofs.lines.order_line.Goals as goal

pub steps_between-requires-clause-far : goal.steps_between-requires-clause-far
steps_between-requires-clause-far c =
    c.far-bound.ensures.exact
    ∙ distance_is c.args.map.now.standing.now.present c.args.map.now.net.now.present (forest c.args.map.now.tree.now) c.requires.seen.seen c.args.second c.args.first c.requires.second c.requires.first

pub unreachable-requires : goal.unreachable-requires
unreachable-requires c =
    let exact =
    c.far-bound.ensures.exact
    ∙ distance_is c.args.map.now.standing.now.present c.args.map.now.net.now.present (forest c.args.map.now.tree.now) c.requires.seen.seen c.args.second c.args.first c.requires.second c.requires.first in
    let never : true ≡ false = sym c.requires.in_order ∙ ap (λ d. bound_at_most d (pos 0)) (sym exact ∙ c.in-Free.is) in
    cc

pub returns-clause-order : goal.returns-clause-order
returns-clause-order c =
    let s = c.args.map.now.standing.now.present in
    let net = c.args.map.now.net.now.present in
    let f = forest c.args.map.now.tree.now in
    let exact = c.far-bound.ensures.exact ∙ distance_is s net f c.requires.seen.seen c.args.second c.args.first c.requires.second c.requires.first in
    let fits : FitsSigned w64 c.in-Finite.far = search rules in
    let far = to_z-of_z w64 c.in-Finite.far fits in
    let first = c.in_ok-point_at-in-Finite.ensures.moment in
    let second = c.in_ok-point_at-in-Finite-2.ensures.moment in
    let steps = c.in_ok-steps.steps.items in
    record {
      far = c.in-Finite.far;
      steps = steps;
      shown = λ i. by_order (first i) (second i) (far i) steps;
      distance = sym exact ∙ c.in-Finite.is;
      walk = subst (λ (d : Bound). WalksIf (built s) (spot_moment net.names f c.args.second) (spot_moment net.names f c.args.first) d steps) c.in-Finite.is c.in_ok-steps.ensures;
    }
