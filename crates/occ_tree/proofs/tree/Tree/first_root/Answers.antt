use Rattle.std.proofs.Common.{subst}
use Rattle.undo_lists.specs.Changes as lists
use Rattle.undo_rows.specs.Changes.{table_in}
use Rattle.occ_tree.specs.Dated.{HaveRoots}
use Rattle.occ_tree.specs.Standing.{Kept, present_rows, tokens_under, present}
use Rattle.occ_tree.proofs.Following.{have_roots}
use Rattle.occ_tree.proofs.Listed.{siblings_are}
use Rattle.occ_tree.proofs.tree.Tree.first_root.Goals as goal

pub returns-clause-roots : goal.returns-clause-roots
returns-clause-roots c =
    let r = c.first.ensures in
    let nodes = c.self.inside.nodes in
    subst (λ (k : Kept). HaveRoots (present k)) c.self.view_is
    (have_roots (present_rows nodes) (tokens_under c.self.inside.classes (lists.present c.self.inside.tokens)) r.stands.placed
    (siblings_are (table_in nodes.rows.rows nodes.rows.families) r.listed nodes.rows.places r.stands) (r.listed.once 0 0))
