use Rattle.std.proofs.Common.{◌≡◌, List, sym, subst}
use Rattle.spots.specs.declared.link.Link.{Link}
use Rattle.spots.specs.declared.spot.Spot.{Spot}
use Rattle.spots.specs.declared.spot.Spot.TheVariants.{Node as OfNode}
use Rattle.spots.specs.Light.{AreLight}
use Rattle.spots.specs.Spots.{base_of, links_of}
use Rattle.spots.specs.Sums.{AreSums}
use Rattle.occ_tree.specs.Nodes.{forest_in}
use Rattle.occ_tree.specs.Standing.{Grove, nodes_in, present_rows, present, forest}
use Rattle.occ_tree.proofs.Telling.{begin_at, links_at}
use Rattle.occ_tree.proofs.tree.Tree.place.Goals as goal

pub returns-in-Node-clause-base : goal.returns-in-Node-clause-base
returns-in-Node-clause-base c =
    let n = c.get-node.result.now in
    subst (λ (p : Spot). n.begin ≡ base_of (forest (present c.args.self.now)) p) (sym c.in-Node.is)
    (subst (λ (g : Grove). n.begin ≡ base_of (forest_in (nodes_in (present_rows g))) (OfNode c.in-Node.x)) c.nodes.ensures (begin_at (nodes_in (present_rows c.nodes.result.now)) c.in-Node.x n c.get-node.ensures.node))

pub returns-in-Node-clause-sums : goal.returns-in-Node-clause-sums
returns-in-Node-clause-sums c =
    let node = nodes_in (present_rows c.nodes.result.now) in
    let n = c.get-node.result.now in
    subst (λ (p : Spot). AreSums n.sums (links_of (forest (present c.args.self.now)) p)) (sym c.in-Node.is)
    (subst (λ (g : Grove). AreSums n.sums (links_of (forest_in (nodes_in (present_rows g))) (OfNode c.in-Node.x))) c.nodes.ensures
    (subst (λ (ls : List Link). AreSums n.sums ls) (links_at node c.in-Node.x n c.get-node.ensures.node) (c.get-node.ensures.stands.placed.each c.in-Node.x n c.get-node.ensures.node).sums))

pub returns-in-Node-clause-light : goal.returns-in-Node-clause-light
returns-in-Node-clause-light c =
    let node = nodes_in (present_rows c.nodes.result.now) in
    let n = c.get-node.result.now in
    subst (λ (p : Spot). AreLight (links_of (forest (present c.args.self.now)) p)) (sym c.in-Node.is)
    (subst (λ (g : Grove). AreLight (links_of (forest_in (nodes_in (present_rows g))) (OfNode c.in-Node.x))) c.nodes.ensures
    (subst AreLight (links_at node c.in-Node.x n c.get-node.ensures.node) (c.get-node.ensures.stands.placed.each c.in-Node.x n c.get-node.ensures.node).light))
