use Rattle.std.proofs.Common.{◌≤◌}
use Rattle.dist_net.proofs.Copies.{AreTaken}
use Rattle.dist_net.specs.Changes.{IsMarking}
use Rattle.dist_net.proofs.table.copy_all_drafted.Given as goal

abbrev pub invariant-loop-place : goal.invariant-loop-place
invariant-loop-place l = AreTaken l.names l.fn.table l.draft (λ k. l.place ≤ k) l.table × IsMarking l.fn.changes l.fn.table l.changes l.table
