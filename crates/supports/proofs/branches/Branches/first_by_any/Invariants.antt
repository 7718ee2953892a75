use Rattle.std.proofs.Common.{take}
use Rattle.occ_tree.specs.Places.{forest}
use Rattle.supports.specs.Firsts.{IsFirstOf, IsOtherBehindAny}
use Rattle.supports.proofs.branches.Branches.first_by_any.Given as goal

abbrev pub invariant-loop-n : goal.invariant-loop-n
invariant-loop-n l = IsFirstOf (IsOtherBehindAny l.order.net.now.present (forest l.order.tree.now) l.rows (take l.n l.nodes) l.i) l.first
