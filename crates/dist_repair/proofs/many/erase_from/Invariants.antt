use Rattle.std.proofs.Common.{◌≤◌}
use Rattle.dist_repair.proofs.Last.{IsErasingLast}
use Rattle.dist_repair.proofs.many.erase_from.Given as goal

abbrev pub invariant-loop-place : goal.invariant-loop-place
invariant-loop-place l = IsErasingLast l.fn.net l.place l.net × (l.first ≤ l.place)
