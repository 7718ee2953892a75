use Rattle.std.specs.Prelude.{◌≡◌, ◌≤◌, length}
use Rattle.std.proofs.Common.{take}
use Rattle.tmm_model.specs.declared.point.PointName.TheVariants.{Begin}
use Rattle.tmm_model.specs.Moments.{At, along}
use Rattle.spots.specs.Forest.{IsLive, moment_at}
use Rattle.occ_tree.specs.Places.{forest}
use Rattle.map_engine.proofs.at_node.is_told.Given as goal

-- what is left of the rules leads to the node, if all of them lead to the first
abbrev pub invariant-loop-left : goal.invariant-loop-left
invariant-loop-left l = record {
  live : IsLive (forest l.tree) l.node;
  within : l.left ≤ length l.occ.rules.items;
  follows : moment_at (forest l.tree) l.node ≡ along (At (Begin l.occ.root)) (take l.left l.occ.rules.items)
      → moment_at (forest l.tree) l.x ≡ along (At (Begin l.occ.root)) l.occ.rules.items;
}

abbrev pub decreases-loop-left : goal.decreases-loop-left
decreases-loop-left l = l.left
