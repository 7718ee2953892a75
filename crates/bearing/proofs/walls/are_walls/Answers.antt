use Rattle.std.proofs.Common.{sym, subst}
use Rattle.dist_net.specs.Net.{IsInUse}
use Rattle.bearing.specs.declared.walls.FastToken.{FastToken}
use Rattle.bearing.specs.Places.{net_at}
use Rattle.bearing.proofs.walls.are_walls.Goals as goal

pub is_surely_within-requires-clause-to : goal.is_surely_within-requires-clause-to
is_surely_within-requires-clause-to c = subst (λ (t : FastToken). IsInUse (net_at c.args.net.now c.args.before).names t.place.base) (sym c.index-tokens-i.is) (c.requires.tokens c.loop-i.i c.index-tokens-i.result c.loop-i-test.true)

pub are_walls_beside-requires-clause-first : goal.are_walls_beside-requires-clause-first
are_walls_beside-requires-clause-first c = (c.loop-i.i, c.loop-i-test.true, sym c.index-tokens-i.is)
