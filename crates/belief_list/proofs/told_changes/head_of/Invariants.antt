use Rattle.std.proofs.Common.{◌≡◌, ◌++◌}
use Rattle.occ_tree.specs.Words.{slash_if}
use Rattle.belief_list.specs.Heads.{front, AreBytes}
use Rattle.belief_list.proofs.told_changes.head_of.Given as goal

abbrev pub invariant-loop-i : goal.invariant-loop-i
invariant-loop-i l = record {
  value : l.head ≡ front l.i (l.name ++ slash_if l.slash);
  bytes : AreBytes l.i (l.name ++ slash_if l.slash);
}
