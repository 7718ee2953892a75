use Rattle.std.proofs.Common.{◌≡◌, ◌∙◌, List, ℕ, IfOk, sym, ap, subst}
use Rattle.occ_tree.specs.Nodes.{way_to}
use Rattle.occ_tree.specs.Standing.{nodes_in, present_rows}
use Rattle.occ_tree.specs.Words.{joined}
use Rattle.occ_tree.proofs.Upward.{text-joined}
use Rattle.occ_tree.proofs.Wording.{word-on}
use Rattle.occ_tree.proofs.told.word_of.Goals as goal

pub returns : goal.returns
returns c =
    let node = nodes_in (present_rows c.args.nodes.now) in
    subst (λ (w : List ℕ). IfOk c.joined.result (λ word. word.items ≡ w))
    (ap joined (c.as_slice.ensures.value ∙ c.in_ok-names.ensures)
    ∙ sym (text-joined node (way_to node c.args.x).numbers)
    ∙ sym (word-on node c.args.x c.get.result.now c.get.ensures.node))
    c.joined.ensures
