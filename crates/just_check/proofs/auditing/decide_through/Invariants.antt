use Rattle.std.proofs.Common.{◌≡◌, ◌⊎◌, ℕ, length, ◌-◌}
use Rattle.std.specs.Prelude.{◌≤ℤ◌}
use Rattle.list_theory.proofs.Elements.{In}
use Rattle.spots.specs.Forest.{moment_at}
use Rattle.occ_tree.specs.Places.{forest}
use Rattle.just_check.specs.Audited.{IsTaken, date_of, decided_in}
use Rattle.just_check.proofs.auditing.decide_through.Given as goal

abbrev pub invariant-loop-checked : goal.invariant-loop-checked
invariant-loop-checked l = record {
  taken : IsTaken l.standing.present l.net.present l.checked;
  tree : l.checked.tree ≡ l.initial.checked.tree;
  nodes : l.checked.nodes ≡ l.initial.checked.nodes;
  own : (x : ℕ) → In x (decided_in l.checked) → In x (decided_in l.initial.checked) ⊎ (date_of l.standing.present (moment_at (forest l.initial.checked.tree) x) ≤ℤ l.date);
}

abbrev pub decreases-loop-checked : goal.decreases-loop-checked
decreases-loop-checked l = length l.checked.nodes.items - l.checked.decided
