use Rattle.std.proofs.Common.{◌≡◌, ◌≤◌, take}
use Rattle.occ_tree.specs.Standing.{nodes_in, present_rows}
use Rattle.occ_tree.proofs.Beside.{rules_at}
use Rattle.occ_tree.proofs.told.rules_on.Given as goal

-- so many of the rules are there
abbrev pub invariant-loop-above : goal.invariant-loop-above
invariant-loop-above l = record {
  taken : l.rules.items ≡ take l.above (rules_at (nodes_in (present_rows l.nodes)) l.x);
  within : l.above ≤ l.depth;
}
