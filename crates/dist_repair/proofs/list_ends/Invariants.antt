use Rattle.std.proofs.Common.{◌≡◌, take}
use Rattle.dist_repair.specs.Rows.{tos_of}
use Rattle.dist_repair.proofs.list_ends.Given as goal

abbrev pub invariant-loop-edge : goal.invariant-loop-edge
invariant-loop-edge l = l.ends ≡ tos_of (take l.edge-index l.net.present.edges)
