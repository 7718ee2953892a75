use Rattle.std.proofs.Common.{◌/◌, ◌%◌, true, arith}
use Rattle.dist_net.proofs.Listing.{IsMarking-start}
use Rattle.dist_net.proofs.Copies.{IsPlaceTaken-set, use_read}
use Rattle.dist_net.proofs.table.copy_place.Goals as goal

pub returns-then-is_none-clause-marking : goal.returns-then-is_none-clause-marking
returns-then-is_none-clause-marking c = IsMarking-start c.args.changes.now c.args.table.now

pub returns-then-is_none-2-clause-marking : goal.returns-then-is_none-2-clause-marking
returns-then-is_none-2-clause-marking c = IsMarking-start c.args.changes.now c.args.table.now

pub returns-clause-taken : goal.returns-clause-taken
returns-clause-taken c =
    IsPlaceTaken-set c.args.names.now c.args.draft.now c.args.table.now c.copy_cell.new.table c.args.place c.requires.place
    (use_read c.args.names.now (c.args.place / 256) c.index-names-a.result true (omega (arith, c.requires.place, c.requires.names)) c.index-names-a.is c.if-is_none.ensures)
    (use_read c.args.names.now (c.args.place % 256) c.index-names-b.result true (omega (arith, c.requires.names)) c.index-names-b.is c.if-is_none-2.ensures)
    c.copy_cell.ensures.set
