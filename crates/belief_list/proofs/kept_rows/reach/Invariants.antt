use Rattle.std.proofs.Common.{◌≡◌, ◌-◌, ℕ, length}
use Rattle.belief_list.specs.KeptRows.{row_under}
use Rattle.belief_list.proofs.kept_rows.reach.Given as goal

abbrev pub invariant-loop-rows : goal.invariant-loop-rows
invariant-loop-rows l = (x : ℕ) → row_under l.rows.items x ≡ row_under l.fn.rows.items x

abbrev pub decreases-loop-rows : goal.decreases-loop-rows
decreases-loop-rows l = l.limit - length l.rows.items
