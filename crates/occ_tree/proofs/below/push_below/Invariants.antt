use Rattle.std.proofs.Common.{◌≡◌, ◌-◌, ℕ, List, ◌++◌, length}
use Rattle.occ_tree.specs.Standing.{nodes_in, present_rows}
use Rattle.occ_tree.proofs.Gathering.{Gathers}
use Rattle.occ_tree.proofs.below.push_below.Given as goal

abbrev pub invariant-loop-next : goal.invariant-loop-next
invariant-loop-next l =
    (first : List ℕ) × (others : List ℕ) × (l.numbers.items ≡ first ++ others) × (length first ≡ l.next) × Gathers (nodes_in (present_rows l.nodes)) l.fn.numbers.items first others

abbrev pub decreases-loop-next : goal.decreases-loop-next
decreases-loop-next l = l.nodes.rows.places - l.next
