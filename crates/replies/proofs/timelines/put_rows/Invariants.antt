use Rattle.std.proofs.Common.{◌≡◌, ◌++◌, drop}
use Rattle.std.specs.List.{flat_map}
use Rattle.replies.specs.Timelines.{dated_line}
use Rattle.replies.proofs.timelines.put_rows.Given as goal

abbrev pub invariant-loop-row : goal.invariant-loop-row
invariant-loop-row l = l.out.items ++ flat_map dated_line (drop l.row-index l.rows) ≡ l.initial.out.items ++ flat_map dated_line l.rows
