use Rattle.std.proofs.Common.{◌≡◌, length}
use Rattle.belief_table.specs.Waiting.{dates_in, AreQueued}
use Rattle.belief_table.proofs.waiting.pop_first.Given as goal

abbrev pub invariant-loop-entry : goal.invariant-loop-entry
invariant-loop-entry l = (l.dates ≡ l.fn.dates) × AreQueued (dates_in l.dates) l.queue

abbrev pub decreases-loop-entry : goal.decreases-loop-entry
decreases-loop-entry l = length l.queue
