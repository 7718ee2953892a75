use Rattle.std.proofs.Common.{subst}
use Rattle.occ_tree.specs.Standing.{Kept, IsTree}
use Rattle.occ_tree.proofs.tree.Tree.classes.Goals as goal

pub returns-clause-stands : goal.returns-clause-stands
returns-clause-stands c = subst (λ (k : Kept). IsTree k.nodes k.classes k.tokens) c.self.view_is c.self.invariant
