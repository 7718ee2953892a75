use Rattle.std.proofs.Common.{◌-◌}
use Rattle.tmm_model.specs.Maps.{built}
use Rattle.justify.proofs.Reached.{IsWalked}
use Rattle.occ_tree.specs.Places.{forest}
use Rattle.justify.proofs.upholders.upholders.Given as goal

abbrev pub invariant-loop-next : goal.invariant-loop-next
invariant-loop-next l = IsWalked (built l.map.standing.now.present) (forest l.map.tree.now) l.x l.found.keys l.next

-- the nodes that are still to come are no more than the numbers left
abbrev pub decreases-loop-next : goal.decreases-loop-next
decreases-loop-next l = l._limit - l.next
