use Rattle.std.proofs.Common.{◌≡◌, ℕ, List, ◌++◌, length, Some}
use Rattle.row_links.specs.Lists.{IsOn}
use Rattle.undo_rows.specs.Changes.{present as table}
use Rattle.occ_tree.specs.Standing.{present}
use Rattle.occ_tree.proofs.Walked.{from_on}
use Rattle.belief_table.specs.Marks.{Marks}
use Rattle.belief_table.specs.Waiting.{dates_in}
use Rattle.bearing.specs.Windows.{spares_in}
use Rattle.belief_table.proofs.Marked.{OnFront}
use Rattle.belief_table.proofs.let_wait.mark_list.Given as goal

abbrev pub invariant-loop-next : goal.invariant-loop-next
invariant-loop-next l =
    (front : List ℕ) × ((table l.rows).list l.family l.head ≡ front ++ from_on l.next ((table l.rows).list l.family l.head))
    × ((i : ℕ) → l.next ≡ Some i → IsOn ((table l.rows).list l.family l.head) i)
    × Marks (present l.tree) (table l.rows) (OnFront (present l.tree) (table l.rows) l.from (spares_in l.window) front) (dates_in l.fn.waiting) (dates_in l.waiting)

abbrev pub decreases-loop-next : goal.decreases-loop-next
decreases-loop-next l = length (from_on l.next ((table l.rows).list l.family l.head))
