use Rattle.std.proofs.Common.{length}
use Rattle.undo_rows.specs.Tables.{AreListed}
use Rattle.occ_tree.specs.Standing.{present_rows, siblings_in}
use Rattle.occ_tree.proofs.Looking.{IsLooking}
use Rattle.occ_tree.proofs.Walked.{from_on}
use Rattle.occ_tree.proofs.find.named.Given as goal

abbrev pub invariant-loop-next : goal.invariant-loop-next
invariant-loop-next l = (listed : AreListed (present_rows l.nodes)) → IsLooking l.nodes listed l.fn.parent l.name l.next

-- those that are still to come
abbrev pub decreases-loop-next : goal.decreases-loop-next
decreases-loop-next l = length (from_on l.next (siblings_in (present_rows l.nodes) l.fn.parent))
