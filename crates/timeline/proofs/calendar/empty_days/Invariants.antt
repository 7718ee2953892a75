use Rattle.std.proofs.Common.{◌≡◌, ℕ, length, []}
use Rattle.timeline.specs.Calendars.{rows_on}
use Rattle.timeline.proofs.calendar.empty_days.Given as goal

abbrev pub invariant-loop : goal.invariant-loop
invariant-loop l = record {
  days : length l.days.items ≡ l.counter;
  empty : (i : ℕ) → rows_on l.days.items i ≡ [];
}
