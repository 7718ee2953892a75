use Rattle.std.proofs.Common.{take}
use Rattle.std.specs.List.{filter_map}
use Rattle.tmm_model.specs.Beliefs.{root_of}
use Rattle.tmm_model.specs.Maps.{built}
use Rattle.timeline.specs.Calendars.{Brought}
use Rattle.timeline.proofs.roots.declared.Given as goal

abbrev pub invariant-loop-place : goal.invariant-loop-place
invariant-loop-place g l = Brought (built (g.M.MapCore.list l.core)) (filter_map root_of (take l.place (g.M.MapCore.list l.core).premises)) l.initial.calendar l.calendar
