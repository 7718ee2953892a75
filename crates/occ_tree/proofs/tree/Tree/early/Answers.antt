use Rattle.std.proofs.Common.{subst}
use Rattle.undo_lists.specs.Changes as lists
use Rattle.occ_tree.specs.Dated.{DatesFollow}
use Rattle.occ_tree.specs.Standing.{Kept, present_rows, tokens_under, present}
use Rattle.occ_tree.proofs.Following.{follow}
use Rattle.occ_tree.proofs.tree.Tree.early.Goals as goal

pub returns-clause-follow : goal.returns-clause-follow
returns-clause-follow c =
    let names = c.self.inside.classes in
    let rows = lists.present c.self.inside.tokens in
    subst (λ (k : Kept). DatesFollow (present k)) c.self.view_is
    (follow (present_rows c.self.inside.nodes) (tokens_under names rows) c.get.ensures.stands.placed c.self.invariant.now.dates)
