use Rattle.std.proofs.Common.{◌≡◌, ◌+◌, ◌-◌, ◌<◌, ◌∙◌, ap, sym, arith, length, slice_index_or}
use Rattle.occ_tree.specs.Standing.{nodes_in, present_rows}
use Rattle.occ_tree.specs.Tokens.{number_of, numbers_in}
use Rattle.occ_tree.specs.Words.{node_cmp}
use Rattle.occ_tree.proofs.Ranking.{nodes_total}
use Rattle.occ_tree.proofs.InOrder.{last_place}
use Rattle.occ_tree.proofs.TokenLists.{length-numbers, row_at}
use Rattle.occ_tree.proofs.tokens.place_of.Goals as goal

pub returns-then-is_node : goal.returns-then-is_node
returns-then-is_node c =
    let node = nodes_in (present_rows c.args.nodes.now) in
    let rows = c.args.rows.now in
    let i = length rows - 1 in
    let some : 0 < length rows = c.requires.some in
    let within : i < length rows = omega (arith, some) in
    let long = length-numbers rows in
    let is = row_at node rows c.requires.rows.rows_are i c.index-rows-last.result within in
    let y = slice_index_or (numbers_in rows) i 0 in
    let own : y ≡ c.args.x = ap (λ r. number_of r.spot) (sym is) ∙ c.is_node.ensures c.if-is_node.true in
    let last : i + 1 ≡ length (numbers_in rows) = omega (arith, long, some) in
    last_place (node_cmp node) (nodes_total node) (numbers_in rows) c.args.x i c.requires.rows.in_order last own
