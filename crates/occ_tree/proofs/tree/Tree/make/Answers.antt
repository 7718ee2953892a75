use Rattle.std.proofs.Common.{◌∙◌, ℕ, ap, List}
use Rattle.undo_rows.specs.Tables.{Table}
use Rattle.undo_lists.specs.Changes as lists
use Rattle.tmm_model.specs.declared.token.TokenRow.{TokenRow}
use Rattle.occ_tree.specs.declared.node.Node.{Node}
use Rattle.spots.specs.declared.spot.Spot.{Spot}
use Rattle.occ_tree.specs.Standing.{nodes_in, present_rows, committed_rows}
use Rattle.occ_tree.proofs.Grown.{no_node_at}
use Rattle.occ_tree.proofs.Keeping.{kept_none}
use Rattle.occ_tree.proofs.tree.Tree.make.Goals as goal

pub invariant_of-result : goal.invariant_of-result
invariant_of-result c =
    let names = c.make-2.result in
    let now = present_rows c.make.result in
    let then = committed_rows c.make.result in
    record {
      now = kept_none names (nodes_in now) (lists.present c.make-3.result) (λ x. no_node_at now x (c.make.ensures.row x)) c.make-3.ensures.present;
      then_ = kept_none names (nodes_in then) (lists.committed c.make-3.result) (λ x. no_node_at then x (ap (λ (t : Table Node 1). t.row x) c.make.ensures.committed ∙ c.make.ensures.row x))
          (λ k. ap (λ (l : ℕ → List (TokenRow Spot)). l k) c.make-3.ensures.committed ∙ c.make-3.ensures.present k);
    }
