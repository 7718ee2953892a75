use Rattle.std.proofs.Common.{◌<◌, arith}
use Rattle.dist_net.proofs.Ends as ends
use Rattle.neg_cycle.proofs.ranks.find_ways.Goals as goal

pub rank-requires : goal.rank-requires
rank-requires c =
    let in_a : c.args.a < 256 = ends.in_places c.args.net.now.present.names c.invariants.ensures.names c.args.a c.requires.from in
    omega (arith, in_a, c.visit_near.ensures.ways.leading.ranks)
