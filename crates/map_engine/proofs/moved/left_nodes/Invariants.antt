use Rattle.std.proofs.Common.{◌≡◌, map, take}
use Rattle.belief_turns.specs.Numbered.{seen_numbered}
use Rattle.map_engine.specs.Gone.{seen_left}
use Rattle.map_engine.proofs.moved.left_nodes.Given as goal

abbrev pub invariant-loop-gone : goal.invariant-loop-gone
invariant-loop-gone l = map seen_left l.nodes.items ≡ map seen_numbered (take l.gone-index l.left)
