use Rattle.occ_tree.specs.Standing.{nodes_in, present_rows}
use Rattle.occ_tree.proofs.Indexed.{IsIndexTo}
use Rattle.occ_tree.proofs.by_name.ByName.of.Given as goal

abbrev pub invariant-loop-x : goal.invariant-loop-x
invariant-loop-x l = IsIndexTo (nodes_in (present_rows l.nodes)) l.x l.numbers.entries
