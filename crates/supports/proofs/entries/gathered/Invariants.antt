use Rattle.occ_tree.specs.Places.{forest}
use Rattle.supports.proofs.BranchesEntering.{AreEntriesTo}
use Rattle.supports.proofs.entries.gathered.Given as goal

abbrev pub invariant-loop-place : goal.invariant-loop-place
invariant-loop-place l = AreEntriesTo (forest l.tree) l.rows l.place l.entries.items
