use Rattle.std.proofs.Common.{◌≡◌, ℕ, List, ◌++◌, length, None}
use Rattle.row_links.specs.Lists.{first_or}
use Rattle.occ_tree.specs.Standing.{nodes_in, present_rows, siblings_in}
use Rattle.occ_tree.proofs.Late.{AreLateOf}
use Rattle.occ_tree.proofs.Walked.{from_on}
use Rattle.occ_tree.proofs.re_dating.late_roots.Given as goal

abbrev pub invariant-loop-next : goal.invariant-loop-next
invariant-loop-next l =
    (front : List ℕ) × (rest : List ℕ) × (siblings_in (present_rows l.nodes) None ≡ front ++ rest) × (l.next ≡ first_or None rest) × AreLateOf l.net.present (nodes_in (present_rows l.nodes)) front l.numbers.items

abbrev pub decreases-loop-next : goal.decreases-loop-next
decreases-loop-next l = length (from_on l.next (siblings_in (present_rows l.nodes) None))
