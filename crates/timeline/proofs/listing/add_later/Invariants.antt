use Rattle.std.proofs.Common.{take}
use Rattle.timeline.specs.Entries.{AddsEntries}
use Rattle.timeline.specs.Until.{until_later}
use Rattle.timeline.proofs.listing.add_later.Given as goal

abbrev pub invariant-loop-row : goal.invariant-loop-row
invariant-loop-row l = AddsEntries (take l.row-index l.rows) (until_later l.standing.present l.rows) l.fn.entries.items l.entries.items
