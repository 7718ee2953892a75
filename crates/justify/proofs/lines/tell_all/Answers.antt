use Rattle.std.proofs.Common.{◌+◌, [], refl, map, take}
use Rattle.tmm_model.specs.Maps.{built}
use Rattle.spots.specs.Forest.{moment_at}
use Rattle.occ_tree.specs.Places.{forest}
use Rattle.occ_tree.specs.Ranks.{nodes_of}
use Rattle.justify.specs.Lines.{AreLinesOfAll}
use Rattle.justify.proofs.Told.{hears_none, hears_more, live_rank, more_ranked}
use Rattle.justify.proofs.lines.tell_all.Goals as goal

pub tell_node-requires-clause-live : goal.tell_node-requires-clause-live
tell_node-requires-clause-live g c =
    live_rank (built c.args.map.now.standing.now.present) (forest c.args.map.now.tree.now) c.args.ranked.now c.loop-rank.rank-index _ c.loop-rank-test.true c.requires.live

pub loop-rank-init : goal.loop-rank-init
loop-rank-init g c = hears_none g.R.Listener.parts_of (AreLinesOfAll (built c.args.map.now.standing.now.present) []) refl (g.R.Listener.heard c.args.listener.now)

pub loop-rank-preserved : goal.loop-rank-preserved
loop-rank-preserved g c =
    let m = built c.args.map.now.standing.now.present in
    let f = forest c.args.map.now.tree.now in
    let ps = c.args.ranked.now in
    let i = c.loop-rank.rank-index in
    hears_more g.R.Listener.parts_of _ _ (AreLinesOfAll m (map (moment_at f) (nodes_of (take (i + 1) ps))))
    (more_ranked m f ps i _ c.loop-rank-test.true) _ _ _ c.loop-rank.invariant c.in_ok-tell_node.ensures
