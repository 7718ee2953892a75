use Rattle.std.proofs.Common.{arith}
use Rattle.spots.proofs.Nodes.{node_at}
use Rattle.tmm_model.specs.Beliefs.{rules_at}
use Rattle.spots.specs.Forest.{moment_at}
use Rattle.occ_tree.specs.Places.{forest}
use Rattle.projection.proofs.OnKinds.{node_weight}
use Rattle.projection.proofs.AtPlaces.{placed}
use Rattle.projection.proofs.growth.count_in.Goals as goal

pub returns-then-size-gt-MOST_SIZE-clause-stops : goal.returns-then-size-gt-MOST_SIZE-clause-stops
returns-then-size-gt-MOST_SIZE-clause-stops c =
    let s = c.args.standing.now.present in
    let f = forest c.args.growing.now.tree in
    let (m, at) = node_at f c.args.x c.requires.live in
    let row = c.row-row.ensures m at in
    let counted = node_weight s f c.args.x m at in
    let places = placed s c.at-places.result.now (rules_at s (moment_at f c.args.x)) c.at-places.ensures.value in
    omega (arith, row.rules, counted, places, c.from.ensures, c.if-size-gt-MOST_SIZE.true)

pub returns-in-Ok-clause-size : goal.returns-in-Ok-clause-size
returns-in-Ok-clause-size c =
    let s = c.args.standing.now.present in
    let f = forest c.args.growing.now.tree in
    let (m, at) = node_at f c.args.x c.requires.live in
    let row = c.row-row.ensures m at in
    let counted = node_weight s f c.args.x m at in
    let places = placed s c.at-places.result.now (rules_at s (moment_at f c.args.x)) c.at-places.ensures.value in
    omega (arith, row.rules, counted, places, c.from.ensures)

pub returns-in-Ok-clause-small : goal.returns-in-Ok-clause-small
returns-in-Ok-clause-small c =
    let s = c.args.standing.now.present in
    let f = forest c.args.growing.now.tree in
    let (m, at) = node_at f c.args.x c.requires.live in
    let row = c.row-row.ensures m at in
    let counted = node_weight s f c.args.x m at in
    let places = placed s c.at-places.result.now (rules_at s (moment_at f c.args.x)) c.at-places.ensures.value in
    omega (arith, row.rules, counted, places, c.from.ensures, c.if-size-gt-MOST_SIZE.false)
