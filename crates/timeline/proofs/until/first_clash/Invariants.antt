use Rattle.std.proofs.Common.{◌≡◌, take}
use Rattle.timeline.specs.Rows.{clashes}
use Rattle.timeline.specs.Until.{least_by, coming_bound}
use Rattle.timeline.proofs.until.first_clash.Given as goal

abbrev pub invariant-loop-next : goal.invariant-loop-next
invariant-loop-next l = l.first ≡ least_by (coming_bound (clashes l.standing.present l.held)) (take l.next-index l.coming)
