use Rattle.std.proofs.Common.{arith}
use Rattle.tmm_model.specs.Beliefs.{rules_at}
use Rattle.spots.specs.Forest.{moment_at}
use Rattle.spots.proofs.Nodes.{node_at}
use Rattle.occ_tree.specs.Places.{forest}
use Rattle.projection.proofs.AtPlaces.{placed}
use Rattle.projection.proofs.OnKinds.{node_weight}
use Rattle.projection.proofs.known.KnownKinds.weight.Goals as goal

pub returns-in-Some-clause-value : goal.returns-in-Some-clause-value
returns-in-Some-clause-value c =
    let s = c.args.standing.now.present in
    let f = forest c.args.tree.now in
    let (m, at) = node_at f c.args.x c.requires.live in
    let row = c.row.ensures m at in
    let counted = node_weight s f c.args.x m at in
    let rules = row.rules in
    let on = placed s c.at-places.result.now (rules_at s (moment_at f c.args.x)) c.at-places.ensures.value in
    let whole = c.from.ensures in
    omega (arith, counted, rules, on, whole)
