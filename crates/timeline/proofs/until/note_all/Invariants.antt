use Rattle.std.proofs.Common.{◌≡◌, Bool, take}
use Rattle.tmm_model.specs.Bounds.{lesser}
use Rattle.timeline.specs.declared.row.Held.{Held}
use Rattle.timeline.specs.Until.{least_by, coming_bound, row_bound}
use Rattle.timeline.proofs.until.note_all.Given as goal

abbrev pub invariant-loop-row : goal.invariant-loop-row
invariant-loop-row l = (q : Held → Bool) → least_by (coming_bound q) l.coming.items ≡ lesser (least_by (row_bound q) (take l.row-index l.rows)) (least_by (coming_bound q) l.fn.coming.items)
