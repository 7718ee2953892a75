use Rattle.std.proofs.Common.{◌∙◌, sym, subst}
use Rattle.std.specs.Ordering.{nat_cmp}
use Rattle.std.specs.Cmp.Lexicographic.{slice_cmp}
use Rattle.occ_tree.specs.Nodes.{ArePlaced}
use Rattle.occ_tree.specs.Standing.{Grove, nodes_in, present_rows}
use Rattle.occ_tree.proofs.Grown.{some_node}
use Rattle.occ_tree.proofs.Wording.{cmp_words_by}
use Rattle.occ_tree.proofs.nodes.Nodes.cmp_words.Goals as goal

pub returns : goal.returns
returns c =
    let node = nodes_in (present_rows c.args.self.now) in
    let placed = subst (λ (g : Grove). ArePlaced (nodes_in (present_rows g))) c.self.view_is c.self.invariant.now.placed in
    let first = c.as_slice.ensures.value ∙ c.piece.ensures in
    let second = c.as_slice-2.ensures.value ∙ c.piece-2.ensures in
    let (m, m_at) = some_node node c.args.x c.requires.x_live in
    let (n, n_at) = some_node node c.args.y c.requires.y_live in
    c.cmp.ensures
    ∙ (λ i. slice_cmp nat_cmp (first i) (second i))
    ∙ sym (cmp_words_by node placed c.args.x c.args.y c.shared-shared.result m n m_at n_at c.shared-shared.ensures)
