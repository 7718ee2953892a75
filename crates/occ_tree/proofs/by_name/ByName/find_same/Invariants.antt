use Rattle.std.proofs.Common.{◌+◌, take}
use Rattle.occ_tree.specs.Standing.{nodes_in, present_rows}
use Rattle.occ_tree.proofs.Finding.{Spells}
use Rattle.occ_tree.proofs.Same.{names_to}
use Rattle.occ_tree.proofs.by_name.ByName.find_same.Given as goal

-- the names on the way to the node here are the first of those on the way to the other
abbrev pub invariant-loop-above : goal.invariant-loop-above
invariant-loop-above l = Spells (nodes_in (present_rows l.self.nodes)) l.same (take (l.above + 1) (names_to (nodes_in (present_rows l.nodes)) l.x))
