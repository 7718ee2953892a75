use Rattle.std.proofs.Common.{take}
use Rattle.timeline.specs.Entries.{AddsEntries}
use Rattle.timeline.specs.Until.{until_row}
use Rattle.timeline.proofs.listing.add_day.Given as goal

abbrev pub invariant-loop-row : goal.invariant-loop-row
invariant-loop-row l = AddsEntries (take l.row-index l.rows) (until_row l.standing.present l.coming) l.fn.entries.items l.entries.items
