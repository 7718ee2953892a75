use Rattle.timeline.proofs.Turns.{told, turned_down}
use Rattle.timeline.proofs.mode.tell.Goals as goal

pub returns-in-Ok : goal.returns-in-Ok
returns-in-Ok g c = told (g.M.MapCore.list c.args.core.now) c.args.line c.in-Ok.found c.tell_found.result c.in-Ok.ensures.small c.in-Ok.ensures.told c.tell_found.ensures

pub returns-in-Err-Refused : goal.returns-in-Err-Refused
returns-in-Err-Refused g c = turned_down (g.M.MapCore.list c.args.core.now) c.args.line c.in-Err-Refused.refusal c.refuse.result (rw c.in-Err-Refused.field-0-is at c.in-Err-Refused.ensures.stops) c.refuse.ensures
