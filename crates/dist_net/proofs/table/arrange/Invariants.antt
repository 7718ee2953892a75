use Rattle.std.proofs.Common.{◌≡◌, length, vec_capacity}
use Rattle.std.specs.List.Sorted.{IsPermutation}
use Rattle.dist_net.proofs.Groups.{AreNextsTo}
use Rattle.dist_net.proofs.table.arrange.Given as goal

abbrev pub invariant-loop-place : goal.invariant-loop-place
invariant-loop-place l =
    IsPermutation l.fn.columns l.columns
    × AreNextsTo l.table l.to l.columns l.nexts.items l.end
    × (length l.nexts.items ≡ l.place)
    × (vec_capacity l.nexts ≡ 256)
