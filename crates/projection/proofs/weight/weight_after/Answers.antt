use Rattle.std.proofs.Common.{arith}
use Rattle.spots.proofs.Nodes.{node_at}
use Rattle.occ_tree.specs.Places.{forest}
use Rattle.projection.proofs.OnKinds.{node_weight}
use Rattle.projection.proofs.weight.weight_after.Goals as goal

pub returns-clause-value : goal.returns-clause-value
returns-clause-value c =
    let s = c.args.standing.now.present in
    let f = forest c.args.tree.now in
    let (m, at) = node_at f c.args.x c.requires.live in
    let row = c.row.ensures m at in
    let counted = node_weight s f c.args.x m at in
    let rules = row.rules in
    let on = c.count_at.ensures.value in
    let whole = c.from.ensures in
    omega (arith, counted, rules, on, whole)
