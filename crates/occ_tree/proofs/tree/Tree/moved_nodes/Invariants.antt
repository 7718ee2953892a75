use Rattle.std.proofs.Common.{take}
use Rattle.occ_tree.specs.AtPoints.{HaveNodesAt}
use Rattle.occ_tree.specs.Standing.{present, forest}
use Rattle.occ_tree.proofs.tree.Tree.moved_nodes.Given as goal

abbrev pub invariant-loop-p : goal.invariant-loop-p
invariant-loop-p l = HaveNodesAt (forest (present l.self)) (take l.p-index l.moved) l.nodes.items
