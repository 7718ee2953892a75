use Rattle.std.proofs.Common.{◌≡◌, ◌∷◌, take}
use Rattle.occ_tree.specs.Standing.{nodes_in, present_rows}
use Rattle.occ_tree.proofs.Finding.{Spells}
use Rattle.occ_tree.proofs.tree.Tree.find.Given as goal

-- the names on the way to the node are that of the root and those of the rules so far
abbrev pub invariant-loop-rule : goal.invariant-loop-rule
invariant-loop-rule l = record {
  items : l.rule-items ≡ l.occ.rules.items;
  here : Spells (nodes_in (present_rows l.nodes)) l.x (l.occ.root ∷ take l.rule-index l.rule-items);
}
