use Rattle.std.proofs.Common.{◌≡◌, ℕ, length, drop}
use Rattle.belief_list.specs.KeptRows.{row_under, rows_after}
use Rattle.belief_list.proofs.kept_rows.take_over.Given as goal

-- the differences from the place on are taken over
abbrev pub invariant-loop-place : goal.invariant-loop-place
invariant-loop-place l =
    (length l.rows.items ≡ length l.fn.rows.items)
    × ((x : ℕ) → row_under l.rows.items x ≡ rows_after l.fn.rows.items (drop l.place l.differences) x)
