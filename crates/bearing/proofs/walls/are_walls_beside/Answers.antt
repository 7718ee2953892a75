use Rattle.std.proofs.Common.{sym, subst}
use Rattle.dist_net.specs.Net.{IsInUse}
use Rattle.bearing.specs.declared.walls.FastToken.{FastToken}
use Rattle.bearing.specs.Places.{net_at}
use Rattle.bearing.proofs.Shifted.{two_begun}
use Rattle.bearing.proofs.walls.are_walls_beside.Goals as goal

pub has_begun_beside-requires-clause-token : goal.has_begun_beside-requires-clause-token
has_begun_beside-requires-clause-token c = subst (λ (t : FastToken). IsInUse (net_at c.args.net.now c.args.before).names t.place.base) (sym c.index-tokens-i.is) (c.requires.tokens c.loop-i.i c.index-tokens-i.result c.loop-i-test.true)

pub returns-then-has_begun_beside : goal.returns-then-has_begun_beside
returns-then-has_begun_beside c is =
    two_begun (net_at c.args.net.now c.args.before) c.args.tokens.now c.args.event.now c.args.first.now c.index-tokens-i.result c.requires.first c.requires.begun (c.loop-i.i, c.loop-i-test.true, sym c.index-tokens-i.is)
    (c.has_begun_beside.ensures.begun c.if-has_begun_beside.true) (c.has_begun_beside.ensures.beside c.if-has_begun_beside.true)
