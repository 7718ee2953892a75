use Rattle.std.proofs.Common.{◌≡◌, take}
use Rattle.timeline.specs.Rows.{clashes}
use Rattle.timeline.specs.Until.{least_by, later_bound}
use Rattle.timeline.proofs.until.first_among.Given as goal

abbrev pub invariant-loop-row : goal.invariant-loop-row
invariant-loop-row l = l.first ≡ least_by (later_bound (clashes l.standing.present l.held) l.date) (take l.row-index l.rows)
