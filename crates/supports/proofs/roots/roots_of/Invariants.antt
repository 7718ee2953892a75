use Rattle.occ_tree.specs.Places.{forest}
use Rattle.supports.proofs.BranchesEntering.{HaveRootsTo}
use Rattle.supports.proofs.roots.roots_of.Given as goal

abbrev pub invariant-loop-place : goal.invariant-loop-place
invariant-loop-place l = HaveRootsTo (forest l.tree) l.rows l.place l.roots.items
