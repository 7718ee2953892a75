use Rattle.std.proofs.Common.{sym, subst}
use Rattle.dist_net.specs.Net.{IsInUse}
use Rattle.net_theory.specs.Represents.{IsNumberOf}
use Rattle.spots.specs.Spots.{spot_moment}
use Rattle.occ_tree.specs.Places.{forest}
use Rattle.spots.proofs.InUse.{base_in_use}
use Rattle.spots.proofs.Nodes.{point_is}
use Rattle.tmm_model.specs.Moments.{base}
use Rattle.justify.proofs.Walked.{walks, has_walk}
use Rattle.justify.proofs.walks.steps_between.Goals as goal

pub walk-requires-clause-from : goal.walk-requires-clause-from
walk-requires-clause-from c =
    let net = c.args.net.now.present in
    let f = forest c.args.tree.now in
    subst (IsInUse net.names) (sym c.base_point-a.ensures) (base_in_use net f (c.args.standing.now.present, c.requires.seen.seen) c.args.from c.requires.from)

pub walk-requires-clause-to : goal.walk-requires-clause-to
walk-requires-clause-to c =
    let net = c.args.net.now.present in
    let f = forest c.args.tree.now in
    subst (IsInUse net.names) (sym c.base_point-b.ensures) (base_in_use net f (c.args.standing.now.present, c.requires.seen.seen) c.args.to c.requires.to)

pub returns-in-Some : goal.returns-in-Some
returns-in-Some c =
    let s = c.args.standing.now.present in
    let net = c.args.net.now.present in
    let f = forest c.args.tree.now in
    let at_a = subst (λ n. IsNumberOf net.names n (base (spot_moment net.names f c.args.from))) (sym c.base_point-a.ensures) (point_is s net f c.requires.seen.seen c.args.from c.requires.from) in
    let at_b = subst (λ n. IsNumberOf net.names n (base (spot_moment net.names f c.args.to))) (sym c.base_point-b.ensures) (point_is s net f c.requires.seen.seen c.args.to c.requires.to) in
    walks s net c.requires.seen.seen.network (spot_moment net.names f c.args.from) (spot_moment net.names f c.args.to) c.base_point-a.result c.base_point-b.result at_a at_b
    c.args.far c.requires.far c.in-Some.steps.items (rw c.in-Some.is at c.in_ok-steps-in-Finite.ensures.exact) (rw c.in-Some.is at c.in_ok-steps-in-Finite.ensures.path) c.in-Finite.field-0 c.in-Finite.is

pub returns-in-None : goal.returns-in-None
returns-in-None c =
    let s = c.args.standing.now.present in
    let net = c.args.net.now.present in
    let f = forest c.args.tree.now in
    let at_a = subst (λ n. IsNumberOf net.names n (base (spot_moment net.names f c.args.from))) (sym c.base_point-a.ensures) (point_is s net f c.requires.seen.seen c.args.from c.requires.from) in
    let at_b = subst (λ n. IsNumberOf net.names n (base (spot_moment net.names f c.args.to))) (sym c.base_point-b.ensures) (point_is s net f c.requires.seen.seen c.args.to c.requires.to) in
    absurd (has_walk s net c.requires.seen.seen.network (spot_moment net.names f c.args.from) (spot_moment net.names f c.args.to) c.base_point-a.result c.base_point-b.result at_a at_b
    c.args.far c.requires.far (rw c.in-None.is at c.in_ok-steps-in-Finite.ensures.exact) c.in-Finite.field-0 c.in-Finite.is)
