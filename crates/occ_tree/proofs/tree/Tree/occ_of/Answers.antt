use Rattle.std.proofs.Common.{◌∙◌, arith, ap}
use Rattle.spots.specs.Forest.{moment_at}
use Rattle.occ_tree.specs.Nodes.{way_to, forest_in}
use Rattle.occ_tree.specs.Standing.{Grove, nodes_in, present_rows}
use Rattle.occ_tree.proofs.Telling.{live_on_way, moment_told}
use Rattle.occ_tree.proofs.tree.Tree.occ_of.Goals as goal

pub get-requires-2 : goal.get-requires-2
get-requires-2 c =
    let node = nodes_in (present_rows c.nodes-nodes.result.now) in
    let n = c.get.result.now in
    live_on_way node c.get.ensures.stands.placed c.args.x n c.get.ensures.node 0 c.root.result (omega arith)
    (ap (λ r. (way_to node r).numbers) c.root.ensures ∙ (c.get.ensures.stands.placed.each c.args.x n c.get.ensures.node).root)

pub returns : goal.returns
returns c =
    let node = nodes_in (present_rows c.nodes-nodes.result.now) in
    let n = c.get.result.now in
    let up = ap (λ r. (way_to node r).numbers) c.root.ensures ∙ (c.get.ensures.stands.placed.each c.args.x n c.get.ensures.node).root in
    moment_told node c.get.ensures.stands.placed c.args.x n c.get.ensures.node c.root.result c.get-2.result.now up c.get-2.ensures.node c.in_ok-rules.rules.items c.in_ok-rules.ensures
    ∙ ap (λ (g : Grove). moment_at (forest_in (nodes_in (present_rows g))) c.args.x) c.nodes-nodes.ensures
