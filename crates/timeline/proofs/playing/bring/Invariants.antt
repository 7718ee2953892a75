use Rattle.std.proofs.Common.{map, take}
use Rattle.tmm_model.specs.Maps.{built}
use Rattle.timeline.specs.Calendars.{Brought}
use Rattle.timeline.specs.Holding.{is_held}
use Rattle.timeline.specs.Kinds.{name_at}
use Rattle.timeline.specs.Rows.{moment}
use Rattle.timeline.proofs.Bringing.{brought}
use Rattle.timeline.proofs.playing.bring.Given as goal

abbrev pub invariant-loop-place : goal.invariant-loop-place
invariant-loop-place l =
    Brought (built l.standing.present) (brought (built l.standing.present) (is_held l.holding) (moment l.trigger) (map (name_at l.standing.present) (take l.place-index l.place-items)))
    l.fn.calendar l.calendar
