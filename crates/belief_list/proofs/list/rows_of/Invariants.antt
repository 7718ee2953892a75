use Rattle.std.proofs.Common.{◌≡◌, map, take}
use Rattle.std.specs.List.{zip}
use Rattle.belief_list.specs.Rows.{belief_row}
use Rattle.belief_list.proofs.list.rows_of.Given as goal

abbrev pub invariant-loop-i : goal.invariant-loop-i
invariant-loop-i l = l.list.items ≡ map belief_row (zip (take l.i l.ranked) (take l.i l.clips))
