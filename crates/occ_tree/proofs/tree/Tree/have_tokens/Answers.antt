use Rattle.std.proofs.Common.{subst}
use Rattle.undo_lists.specs.Changes as lists
use Rattle.occ_tree.specs.Standing.{Kept, nodes_in, present_rows, present, forest, order}
use Rattle.occ_tree.specs.Tokens.{IsInOrder, numbers_in}
use Rattle.spots.specs.Spots.{AreTokens}
use Rattle.occ_tree.proofs.Keeping.{tokens_of, order_of}
use Rattle.occ_tree.proofs.tree.Tree.have_tokens.Goals as goal

pub returns-clause-rows : goal.returns-clause-rows
returns-clause-rows c = λ class.
    subst (λ (k : Kept). AreTokens (forest (present k)) class ((present k).tokens class)) c.self.view_is
    (tokens_of c.self.inside.classes (nodes_in (present_rows c.self.inside.nodes)) (lists.present c.self.inside.tokens) c.self.invariant.now class)

pub returns-clause-in_order : goal.returns-clause-in_order
returns-clause-in_order c = λ class.
    subst (λ (k : Kept). IsInOrder (order (present k)) (numbers_in ((present k).tokens class))) c.self.view_is
    (order_of c.self.inside.classes (nodes_in (present_rows c.self.inside.nodes)) (lists.present c.self.inside.tokens) c.self.invariant.now class)
