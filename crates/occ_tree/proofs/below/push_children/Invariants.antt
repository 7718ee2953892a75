use Rattle.std.proofs.Common.{◌≡◌, ◌+◌, ◌-◌, ℕ, List, ◌++◌, length, Some, None}
use Rattle.row_links.specs.Lists.{first_or}
use Rattle.occ_tree.specs.Standing.{present_rows, siblings_in}
use Rattle.occ_tree.proofs.below.push_children.Given as goal

abbrev pub invariant-loop-child : goal.invariant-loop-child
invariant-loop-child l =
    (front : List ℕ) × (rest : List ℕ) × (siblings_in (present_rows l.nodes) (Some l.x) ≡ front ++ rest) × (l.numbers.items ≡ l.fn.numbers.items ++ front) × (l.child ≡ first_or None rest)

abbrev pub decreases-loop-child : goal.decreases-loop-child
decreases-loop-child l = length l.fn.numbers.items + length (siblings_in (present_rows l.nodes) (Some l.x)) - length l.numbers.items
