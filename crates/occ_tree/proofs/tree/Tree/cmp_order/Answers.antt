use Rattle.std.proofs.Common.{◌≡◌, subst}
use Rattle.occ_tree.specs.Standing.{Grove, nodes_in, present_rows}
use Rattle.occ_tree.specs.Words.{node_cmp}
use Rattle.occ_tree.proofs.tree.Tree.cmp_order.Goals as goal

pub returns : goal.returns
returns c = subst (λ (g : Grove). c.cmp_order.result ≡ node_cmp (nodes_in (present_rows g)) c.args.x c.args.y) c.nodes.ensures c.cmp_order.ensures
