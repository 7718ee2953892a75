use Rattle.std.proofs.Common.{◌∙◌, map, ap}
use Rattle.tmm_model.specs.Moments.{moment_of}
use Rattle.spots.specs.Forest.{moment_at}
use Rattle.occ_tree.specs.Places.{forest}
use Rattle.belief_list.proofs.Neighbours.{one_more, all_told}
use Rattle.belief_list.proofs.changes.occs_of.Goals as goal

pub occ_after-requires-clause-before : goal.occ_after-requires-clause-before
occ_after-requires-clause-before c = ap (map moment_of) c.items.ensures ∙ c.loop-i.invariant

pub loop-i-preserved : goal.loop-i-preserved
loop-i-preserved c =
    one_more moment_of (moment_at (forest c.args.tree.now)) c.args.nodes.now c.loop-i.occs.items c.push_one.new.occs.items c.in_ok-occ.occ c.loop-i.i _ c.loop-i-test.true c.loop-i.invariant
    c.in_ok-push_one.ensures c.in_ok-occ.ensures

pub returns : goal.returns
returns c = all_told moment_of (moment_at (forest c.args.tree.now)) c.args.nodes.now c.loop-i.occs.items c.loop-i.i c.loop-i-test.false c.loop-i.invariant
