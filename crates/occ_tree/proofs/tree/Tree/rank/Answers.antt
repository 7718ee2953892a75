use Rattle.std.proofs.Common.{◌≡◌, subst}
use Rattle.occ_tree.specs.Standing.{Grove, nodes_in, present_rows}
use Rattle.occ_tree.specs.Words.{rank_in}
use Rattle.occ_tree.proofs.tree.Tree.rank.Goals as goal

pub returns : goal.returns
returns c = subst (λ (g : Grove). c.rank.result ≡ rank_in (nodes_in (present_rows g)) c.args.x c.args.y) c.nodes.ensures c.rank.ensures
