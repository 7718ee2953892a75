use Rattle.std.specs.List.{All}
use Rattle.occ_tree.specs.Places.{forest}
use Rattle.supports.specs.Under.{IsUnder}
use Rattle.supports.proofs.Ways.{Climbs, steps}
use Rattle.supports.proofs.way.way_to.Given as goal

abbrev pub invariant-loop-next : goal.invariant-loop-next
invariant-loop-next l = record {
  own : All (λ y. IsUnder (forest l.tree) y l.x) l.way.items;
  climbs : Climbs (forest l.tree) l.x l.way.items l.next;
}

abbrev pub decreases-loop-next : goal.decreases-loop-next
decreases-loop-next l = steps (forest l.tree) l.next
