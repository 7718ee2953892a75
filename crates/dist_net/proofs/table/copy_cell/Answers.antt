use Rattle.dist_net.proofs.Listing.{IsMarking-start}
use Rattle.dist_net.proofs.table.copy_cell.Goals as goal

pub returns-else-not-is-clause-marking : goal.returns-else-not-is-clause-marking
returns-else-not-is-clause-marking c = IsMarking-start c.args.changes.now c.args.table.now
