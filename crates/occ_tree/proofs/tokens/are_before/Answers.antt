use Rattle.std.proofs.Common.{◌≡◌, ◌+◌, ◌-◌, ◌<◌, ◌∙◌, ap, sym, subst, arith, length, slice_index_or}
use Rattle.std.specs.Ordering.{is_lt}
use Rattle.occ_tree.specs.Standing.{nodes_in, present_rows}
use Rattle.occ_tree.specs.Tokens.{number_of, numbers_in, IsPlaceFor}
use Rattle.occ_tree.specs.Words.{node_cmp}
use Rattle.occ_tree.proofs.Ranking.{nodes_total}
use Rattle.occ_tree.proofs.InOrder.{all_before}
use Rattle.occ_tree.proofs.TokenLists.{is_less, length-numbers, row_at, on_at, not_none}
use Rattle.occ_tree.proofs.tokens.are_before.Goals as goal

pub is_before-requires-clause-spot : goal.is_before-requires-clause-spot
is_before-requires-clause-spot c =
    let node = nodes_in (present_rows c.args.nodes.now) in
    let rows = c.args.rows.now in
    let i = length rows - 1 in
    let some : 0 < length rows = not_none (length rows) (sym c.is_empty.ensures ∙ c.if-is_empty.false) in
    let within : i < length rows = omega (arith, some) in
    let long = length-numbers rows in
    let is = row_at node rows c.requires.rows.rows_are i c.index-rows-last.result within in
    let y = slice_index_or (numbers_in rows) i 0 in
    (y, ap (λ r. r.spot) is, c.requires.rows.live y (on_at (numbers_in rows) i (omega (arith, long, within))))

pub returns : goal.returns
returns c = λ before.
    let node = nodes_in (present_rows c.args.nodes.now) in
    let rows = c.args.rows.now in
    let i = length rows - 1 in
    let some : 0 < length rows = not_none (length rows) (sym c.is_empty.ensures ∙ c.if-is_empty.false) in
    let within : i < length rows = omega (arith, some) in
    let long = length-numbers rows in
    let is = row_at node rows c.requires.rows.rows_are i c.index-rows-last.result within in
    let y = slice_index_or (numbers_in rows) i 0 in
    let less = is_less (node_cmp node y c.args.x) (ap (λ r. is_lt (node_cmp node (number_of r.spot) c.args.x)) (sym is) ∙ sym c.is_before.ensures ∙ before) in
    let last : i + 1 ≡ length (numbers_in rows) = omega (arith, long, some) in
    subst (IsPlaceFor (node_cmp node) (numbers_in rows) c.args.x) long (all_before (node_cmp node) (nodes_total node) (numbers_in rows) c.args.x i c.requires.rows.in_order last less)
