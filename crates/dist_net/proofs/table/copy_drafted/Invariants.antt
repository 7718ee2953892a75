use Rattle.dist_net.proofs.Copies.{AreTaken, IsLaterOf}
use Rattle.dist_net.specs.Changes.{IsMarking}
use Rattle.dist_net.proofs.table.copy_drafted.Given as goal

abbrev pub invariant-loop-i : goal.invariant-loop-i
invariant-loop-i l = AreTaken l.names l.fn.table l.draft (IsLaterOf l.fn.changes.drafted l.i) l.table × IsMarking l.fn.changes l.fn.table l.changes l.table
