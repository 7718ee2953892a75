use Rattle.occ_tree.proofs.Marking.{AreTold}
use Rattle.occ_tree.proofs.classes.Classes.marked.Given as goal

abbrev pub invariant-loop-k : goal.invariant-loop-k
invariant-loop-k l = AreTold l.names l.marks l.classes.items l.k
