use Rattle.occ_tree.specs.Standing.{present, forest}
use Rattle.occ_tree.proofs.FirstNodes.{AreFirst}
use Rattle.occ_tree.proofs.tree.Tree.numbers.Given as goal

abbrev pub invariant-loop-x : goal.invariant-loop-x
invariant-loop-x l = AreFirst (forest (present l.self)) l.numbers.items l.x
