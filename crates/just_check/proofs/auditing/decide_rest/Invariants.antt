use Rattle.std.proofs.Common.{◌≡◌, length, ◌-◌}
use Rattle.just_check.specs.Audited.{IsTaken}
use Rattle.occ_tree.specs.Places.{forest}
use Rattle.just_check.proofs.auditing.decide_rest.Given as goal

abbrev pub invariant-loop-checked : goal.invariant-loop-checked
invariant-loop-checked l = record {
  taken : IsTaken l.standing.present l.net.present l.checked;
  tree : forest l.checked.tree ≡ forest l.initial.checked.tree;
  nodes : l.checked.nodes ≡ l.initial.checked.nodes;
}

abbrev pub decreases-loop-checked : goal.decreases-loop-checked
decreases-loop-checked l = length l.checked.nodes.items - l.checked.decided
