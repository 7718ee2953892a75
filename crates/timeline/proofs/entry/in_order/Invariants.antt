use Rattle.std.proofs.Common.{◌≡◌, map}
use Rattle.timeline.proofs.entry.in_order.Given as goal

abbrev pub invariant-loop-entry : goal.invariant-loop-entry
invariant-loop-entry l = l.rows.items ≡ map (λ e. e.dated) l.yielded
