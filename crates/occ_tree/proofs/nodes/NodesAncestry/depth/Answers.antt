use Rattle.occ_tree.specs.Standing.{nodes_in, present_rows}
use Rattle.occ_tree.proofs.Ways.{length-way}
use Rattle.occ_tree.proofs.nodes.NodesAncestry.depth.Goals as goal

pub returns : goal.returns
returns c = length-way (nodes_in (present_rows c.args.self.now)) c.args.x c.get.result.now c.get.ensures.node
