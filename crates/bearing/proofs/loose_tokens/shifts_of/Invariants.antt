use Rattle.occ_tree.specs.Places.{forest}
use Rattle.bearing.specs.Fast.{is_out}
use Rattle.bearing.proofs.Shifted.{NotesFirst}
use Rattle.bearing.proofs.loose_tokens.shifts_of.Given as goal

abbrev pub invariant-loop-i : goal.invariant-loop-i
invariant-loop-i l = NotesFirst l.net (forest l.tree) (is_out l.moves.fast.items) l.class l.rows l.i l.shifts.items
