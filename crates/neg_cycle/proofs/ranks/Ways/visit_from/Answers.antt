use Rattle.std.proofs.Common.{arith, refl}
use Rattle.neg_cycle.proofs.Linked.{read_at, read_to}
use Rattle.neg_cycle.proofs.ranks.Ways.visit_from.Goals as goal

pub rank-requires : goal.rank-requires
rank-requires c =
    let net = c.args.net.now.present in
    let list = c.edges-edges.ensures in
    let to = read_to net.names net.edges c.edges-edges.result.now c.loop-place.place c.index-edges-place.result list.names list.in_use list.list c.index-edges-place.is c.loop-place-test.true in
    omega (arith, to, c.loop-place.invariant.leading.ranks)

pub visit-requires-clause-edge : goal.visit-requires-clause-edge
visit-requires-clause-edge c =
    (c.index-edges-place.result, read_at c.args.net.now.present.edges c.edges-edges.result.now c.loop-place.place c.index-edges-place.result c.edges-edges.ensures.list c.index-edges-place.is c.loop-place-test.true, refl)
