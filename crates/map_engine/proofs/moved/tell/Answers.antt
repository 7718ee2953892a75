use Rattle.std.proofs.Common.{◌∙◌, ℕ, List, ap, sym, subst}
use Rattle.tmm_model.specs.Changes.{delta_of}
use Rattle.belief_list.specs.declared.left_nodes.LeftNode.{LeftNode}
use Rattle.belief_list.specs.LeftNodes.{AreWords}
use Rattle.occ_tree.specs.Places.{forest}
use Rattle.supports.specs.Edited.{old_forest}
use Rattle.list_theory.specs.LeftOut.{IsLeftOut}
use Rattle.map_engine.proofs.Gone.{words_are}
use Rattle.belief_list.proofs.WholeChanges.{told}
use Rattle.map_engine.proofs.moved.tell.Goals as goal

pub changes_told-requires-clause-left : goal.changes_told-requires-clause-left
changes_told-requires-clause-left c =
    let tree = c.args.map.now.tree.now in
    subst (λ (nodes : List LeftNode). AreWords (old_forest tree) (forest tree) nodes) (sym c.as_slice.ensures.value)
    (words_are tree c.args.left.now c.in_ok-nodes.nodes.items c.in_ok-nodes.ensures c.requires.numbers)

pub reviewed-requires-clause-left_out : goal.reviewed-requires-clause-left_out
reviewed-requires-clause-left_out c =
    let lists = c.args.map.now.standing.now in
    subst (λ (names : List (List ℕ)). IsLeftOut lists.committed lists.present names) (sym c.items.ensures) c.requires.left_out

pub returns-clause-changes : goal.returns-clause-changes
returns-clause-changes c =
    let lists = c.args.map.now.standing.now in
    let (kept, made) = c.requires.made in
    let between = c.in_ok-believed.ensures lists c.args.edit.now kept made in
    let believed = c.in_ok-believed.believed in
    let found = c.in_ok-broken.ensures in
    ap delta_of c.with_protections-changes.ensures
    ∙ told lists.committed lists.present
    (record {
      erased = c.args.erased;
      left = believed.left;
      entered = believed.entered;
      loose = believed.loose;
      clips = believed.clips;
      broken = c.in_ok-broken.broken;
      mended = c.in_ok-broken.mended;
    })
    c.requires.left_out between.left between.entered between.loose between.clips
    (found.0 ∙ c.in_ok-review.ensures.broken) (found.1 ∙ c.in_ok-review.ensures.mended)
