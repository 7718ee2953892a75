use Rattle.std.proofs.Common.{sym, subst}
use Rattle.spots.specs.declared.spot.Spot.{Spot}
use Rattle.spots.specs.declared.spot.Spot.TheVariants.{Node as OfNode}
use Rattle.spots.specs.Spots.{links_of}
use Rattle.spots.specs.Sums.{ArePartedBy}
use Rattle.occ_tree.specs.Nodes.{forest_in, way_to}
use Rattle.occ_tree.specs.Standing.{Grove, nodes_in, present_rows, present, forest}
use Rattle.occ_tree.proofs.Telling.{links_there, parted_to_none}
use Rattle.occ_tree.proofs.tree.Tree.shared_sums.Goals as goal

pub returns-in-Declared-to : goal.returns-in-Declared-to
returns-in-Declared-to c =
    let f = forest (present c.args.self.now) in
    let s = c.of_none-in-Declared-to.result in
    subst (λ (p : Spot). ArePartedBy s (links_of f c.args.from) (links_of f p)) (sym c.in-Declared-to.is) (parted_to_none s (links_of f c.args.from) c.of_none-in-Declared-to.ensures)

pub returns-in-Node-to : goal.returns-in-Node-to
returns-in-Node-to c =
    let f = forest (present c.args.self.now) in
    let s = c.shared_sums.result in
    let node = nodes_in (present_rows c.nodes.result.now) in
    let x = c.in-Node.x in
    let y = c.in-Node-to.y in
    subst (λ (p : Spot). ArePartedBy s (links_of f p) (links_of f c.args.to)) (sym c.in-Node.is)
    (subst (λ (q : Spot). ArePartedBy s (links_of f (OfNode x)) (links_of f q)) (sym c.in-Node-to.is)
    (subst (λ (g : Grove). ArePartedBy s (links_of (forest_in (nodes_in (present_rows g))) (OfNode x)) (links_of (forest_in (nodes_in (present_rows g))) (OfNode y))) c.nodes.ensures
    (subst (λ u. ArePartedBy s u (links_of (forest_in node) (OfNode y))) (links_there node x) (subst (ArePartedBy s (way_to node x).links) (links_there node y) c.shared_sums.ensures))))
