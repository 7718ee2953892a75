use Rattle.std.proofs.Common.{◌+◌, ◌≤◌}
use Rattle.undo_rows.specs.Steps.{LeadsBack}
use Rattle.row_links.specs.Lists.{without}
use Rattle.undo_rows.specs.Tables.{head_in}
use Rattle.undo_rows.proofs.Lists.{AreChanged}
use Rattle.undo_rows.proofs.steps.unlink_all.Given as goal

abbrev pub invariant-loop-family : goal.invariant-loop-family
invariant-loop-family g l = record {
  lists : AreChanged l.fn.links l.links (head_in l.heads) (without l.x) l.family;
  back : LeadsBack g.row.F l.fn.links l.links l.fn.log.items l.log.items;
  spare : l.fn.log.spare ≤ l.log.spare + l.family;
}
