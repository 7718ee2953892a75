use Rattle.std.proofs.Common.{arith}
use Rattle.dist_net.proofs.Ways.{IsLoweredTo-step}
use Rattle.dist_net.proofs.anew.lower_row.Goals as goal

pub loop-b-preserved : goal.loop-b-preserved
loop-b-preserved c =
    IsLoweredTo-step c.args.table.now c.loop-b.table c.args.a c.args.c _ c.loop-b.b _ _ c.lowered.result c.loop-b.invariant c.requires.row c.requires.point (omega arith) c.requires.other c.index-table-a.is c.index-table-c.is c.lowered.ensures
