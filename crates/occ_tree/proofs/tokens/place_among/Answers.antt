use Rattle.std.proofs.Common.{◌+◌, ◌-◌, ◌<◌, ◌∙◌, ap, sym, arith, length, slice_index_or}
use Rattle.std.specs.Ordering.{is_lt}
use Rattle.std.specs.Prelude.{◌/◌}
use Rattle.occ_tree.specs.Standing.{nodes_in, present_rows}
use Rattle.occ_tree.specs.Tokens.{number_of, numbers_in}
use Rattle.occ_tree.specs.Words.{node_cmp}
use Rattle.occ_tree.proofs.Ranking.{nodes_total}
use Rattle.occ_tree.proofs.InOrder.{before_more, after_more}
use Rattle.occ_tree.proofs.TokenLists.{is_less, no_less, length-numbers, row_at, on_at}
use Rattle.occ_tree.proofs.tokens.place_among.Goals as goal

pub is_before-requires-clause-spot : goal.is_before-requires-clause-spot
is_before-requires-clause-spot c =
    let node = nodes_in (present_rows c.args.nodes.now) in
    let rows = c.args.rows.now in
    let i = c.loop-low.low + (c.loop-low.high - c.loop-low.low) / 2 in
    let within : i < length rows = omega (arith, c.loop-low.invariant.high) in
    let long = length-numbers rows in
    let is = row_at node rows c.requires.rows.rows_are i c.index-rows-middle.result within in
    let y = slice_index_or (numbers_in rows) i 0 in
    (y, ap (λ r. r.spot) is, c.requires.rows.live y (on_at (numbers_in rows) i (omega (arith, long, within))))

pub loop-low-preserved-then-is_before : goal.loop-low-preserved-then-is_before
loop-low-preserved-then-is_before c =
    let node = nodes_in (present_rows c.args.nodes.now) in
    let rows = c.args.rows.now in
    let i = c.loop-low.low + (c.loop-low.high - c.loop-low.low) / 2 in
    let within : i < length rows = omega (arith, c.loop-low.invariant.high) in
    let long = length-numbers rows in
    let is = row_at node rows c.requires.rows.rows_are i c.index-rows-middle.result within in
    let less = is_less (node_cmp node (slice_index_or (numbers_in rows) i 0) c.args.x) (ap (λ r. is_lt (node_cmp node (number_of r.spot) c.args.x)) (sym is) ∙ sym c.is_before.ensures ∙ c.if-is_before.true) in
    record {
      low = omega arith;
      high = c.loop-low.invariant.high;
      before = before_more (node_cmp node) (nodes_total node) (numbers_in rows) c.args.x i c.requires.rows.in_order (omega (arith, long, within)) less;
      after = c.loop-low.invariant.after;
    }

pub loop-low-preserved : goal.loop-low-preserved
loop-low-preserved c =
    let node = nodes_in (present_rows c.args.nodes.now) in
    let rows = c.args.rows.now in
    let i = c.loop-low.low + (c.loop-low.high - c.loop-low.low) / 2 in
    let within : i < length rows = omega (arith, c.loop-low.invariant.high) in
    let long = length-numbers rows in
    let is = row_at node rows c.requires.rows.rows_are i c.index-rows-middle.result within in
    let not_less = no_less (node_cmp node (slice_index_or (numbers_in rows) i 0) c.args.x) (ap (λ r. is_lt (node_cmp node (number_of r.spot) c.args.x)) (sym is) ∙ sym c.is_before.ensures ∙ c.if-is_before.false) in
    record {
      low = omega arith;
      high = omega (arith, within);
      before = c.loop-low.invariant.before;
      after = after_more (node_cmp node) (nodes_total node) (numbers_in rows) c.args.x i c.requires.rows.in_order (omega (arith, long, within)) not_less;
    }
