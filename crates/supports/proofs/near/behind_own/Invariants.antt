use Rattle.std.proofs.Common.{◌≡◌, ℕ, ◌-◌, ◌<◌, ◌≤◌, length}
use Rattle.supports.specs.Entries.{fact_at}
use Rattle.supports.proofs.near.behind_own.Given as goal

abbrev pub invariant-loop-end : goal.invariant-loop-end
invariant-loop-end l = record {
  behind : l.from ≤ l.end;
  within : l.end ≤ length l.rows;
  own : (j : ℕ) → l.from ≤ j → j < l.end → fact_at l.rows j ≡ l.fact;
}

abbrev pub decreases-loop-end : goal.decreases-loop-end
decreases-loop-end l = length l.rows - l.end
