use Rattle.std.proofs.Common.{◌≡◌, map, take}
use Rattle.tmm_model.specs.Answers.{blame_of}
use Rattle.tmm_model.specs.Maps.{built}
use Rattle.spots.specs.Spots.{spot_moment}
use Rattle.occ_tree.specs.Places.{forest}
use Rattle.tt_query.specs.Firsts.{blame_at, placed_nodes}
use Rattle.tt_query.proofs.asking.blames.Given as goal

abbrev pub invariant-loop-token : goal.invariant-loop-token
invariant-loop-token l =
    map blame_of l.blames.items ≡ map (blame_at (built l.map.standing.now.present) (forest l.map.tree.now) (spot_moment l.map.net.now.present.names (forest l.map.tree.now) l.p) (spot_moment l.map.net.now.present.names (forest l.map.tree.now) l.q)) (placed_nodes (take l.token-index l.tokens))
