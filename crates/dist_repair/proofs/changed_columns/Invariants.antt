use Rattle.dist_net.specs.Net.{entry}
use Rattle.dist_repair.proofs.Columns.{IsCollecting}
use Rattle.dist_repair.proofs.changed_columns.Given as goal

abbrev pub invariant-loop-b : goal.invariant-loop-b
invariant-loop-b l = IsCollecting l.net.present l.from (entry l.net.draft l.from) l.b l.columns.items
