use Rattle.std.proofs.Common.{◌≡◌, ℕ, ◌<◌, get_or}
use Rattle.bearing.specs.declared.loose_tokens.Shift.{Shift}
use Rattle.bearing.specs.Shifts.{IsSparedBy}
use Rattle.bearing.proofs.loose_tokens.spares.Given as goal

abbrev pub invariant-loop-i : goal.invariant-loop-i
invariant-loop-i l =
    (k : ℕ) (shift : Shift) → k < l.i → shift ≡ get_or l.shifts k shift
    → IsSparedBy l.net.committed shift.place shift.before.items l.event × IsSparedBy l.net.present shift.place shift.after.items l.event
