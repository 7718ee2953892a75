use Rattle.std.proofs.Common.{◌≡◌, ◌++◌, map, take}
use Rattle.spots.specs.Forest.{moment_at}
use Rattle.occ_tree.specs.Places.{forest}
use Rattle.belief_turns.specs.Numbered.{seen_numbered}
use Rattle.belief_turns.specs.Telling.{seen_dated, seen_node}
use Rattle.belief_turns.proofs.told.tell_all.Given as goal

abbrev pub invariant-loop-y : goal.invariant-loop-y
invariant-loop-y l = record {
  dated : map seen_dated l.moved.items ≡ map seen_dated l.fn.moved.items ++ map (seen_node l.tree) (take l.y-index l.numbers);
  numbers : map seen_numbered l.moved.items ≡ map seen_numbered l.fn.moved.items ++ map (λ y. (y, moment_at (forest l.tree) y)) (take l.y-index l.numbers);
}
