use Rattle.std.proofs.Common.{take}
use Rattle.tmm_model.specs.Maps.{built}
use Rattle.timeline.specs.Calendars.{Brought}
use Rattle.timeline.specs.Holding.{is_held}
use Rattle.timeline.proofs.Bringing.{all_brought}
use Rattle.timeline.proofs.playing.bring_all.Given as goal

abbrev pub invariant-loop-row : goal.invariant-loop-row
invariant-loop-row l = Brought (built l.standing.present) (all_brought (built l.standing.present) (is_held l.holding) (take l.row-index l.today)) l.fn.calendar l.calendar
