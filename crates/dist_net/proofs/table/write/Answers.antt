use Rattle.std.proofs.Common.{◌+◌, ◌*◌}
use Rattle.dist_net.proofs.Listing.{IsMarking-set}
use Rattle.dist_net.proofs.table.write.Goals as goal

pub returns-clause-marking : goal.returns-clause-marking
returns-clause-marking c = IsMarking-set c.args.changes.now c.note.new.self c.args.table.now (c.args.a * 256 + c.args.b) c.args.value c.note.ensures.places c.note.ensures.drafted c.note.ensures.moved
