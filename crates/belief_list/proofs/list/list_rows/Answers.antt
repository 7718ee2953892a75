use Rattle.std.proofs.Common.{◌∙◌, map, ap}
use Rattle.tmm_model.specs.Answers.{row_of}
use Rattle.occ_tree.specs.Places.{forest}
use Rattle.belief_list.specs.Rows.{row_at}
use Rattle.belief_list.proofs.Neighbours.{one_more, all_told}
use Rattle.belief_list.proofs.list.list_rows.Goals as goal

pub occ_after-requires-clause-x_live : goal.occ_after-requires-clause-x_live
occ_after-requires-clause-x_live c = (c.requires c.loop-i.i _ c.loop-i-test.true).node

pub occ_after-requires-clause-before : goal.occ_after-requires-clause-before
occ_after-requires-clause-before c = ap (map row_of) c.items.ensures ∙ c.loop-i.invariant

pub loop-i-preserved : goal.loop-i-preserved
loop-i-preserved c =
    one_more row_of (row_at (forest c.args.tree.now)) c.args.rows.now c.loop-i.told.items c.push_row.new.rows.items c.in_ok-row.row c.loop-i.i _ c.loop-i-test.true c.loop-i.invariant
    c.in_ok-push_row.ensures c.in_ok-row.ensures

pub returns : goal.returns
returns c = all_told row_of (row_at (forest c.args.tree.now)) c.args.rows.now c.loop-i.told.items c.loop-i.i c.loop-i-test.false c.loop-i.invariant
