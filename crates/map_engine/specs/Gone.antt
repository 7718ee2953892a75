-- What is told of nodes that are gone.
use Rattle.std.specs.Prelude.{ℕ}
use Rattle.tmm_model.specs.Moments.{Moment, moment_of}
use Rattle.belief_list.specs.declared.left_nodes.LeftNode.{LeftNode}

-- the number of the node, and its occurrence
abbrev pub seen_left : LeftNode → ℕ × Moment
seen_left n = (n.node, moment_of n.occ.now)
