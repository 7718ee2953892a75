use Rattle.std.proofs.Common.{◌≡◌, map, take}
use Rattle.tmm_model.specs.Answers.{row_of}
use Rattle.occ_tree.specs.Places.{forest}
use Rattle.belief_list.specs.Rows.{row_at}
use Rattle.belief_list.proofs.list.list_rows.Given as goal

abbrev pub invariant-loop-i : goal.invariant-loop-i
invariant-loop-i l = map row_of l.told.items ≡ map (row_at (forest l.tree)) (take l.i l.rows)
