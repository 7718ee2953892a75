use Rattle.std.proofs.Common.{◌≡◌, ℕ, List, ◌++◌, map, length, Some}
use Rattle.row_links.specs.Lists.{IsOn}
use Rattle.occ_tree.proofs.Walked.{from_on}
use Rattle.belief_table.specs.Decided.{table_of}
use Rattle.belief_net.proofs.KindEvents.{trigger_in}
use Rattle.belief_net.proofs.kind_events.events_with.Given as goal

abbrev pub invariant-loop-next : goal.invariant-loop-next
invariant-loop-next l =
    (front : List ℕ) × ((table_of l.decisions).list 1 l.number ≡ front ++ from_on l.next ((table_of l.decisions).list 1 l.number))
    × ((i : ℕ) → l.next ≡ Some i → IsOn ((table_of l.decisions).list 1 l.number) i)
    × (l.found.items ≡ map (trigger_in (table_of l.decisions)) front)

abbrev pub decreases-loop-next : goal.decreases-loop-next
decreases-loop-next l = length (from_on l.next ((table_of l.decisions).list 1 l.number))
