use Rattle.std.proofs.Common.{arith}
use Rattle.dist_net.proofs.Indexing.{IsFollowing-end}
use Rattle.dist_net.proofs.index.Index.follow.Goals as goal

pub returns : goal.returns
returns c =
    IsFollowing-end c.args.old.now c.args.new.now c.loop-p.p c.loop-p.self (omega (arith, c.requires.places_old, c.loop-p-test.false))
    (omega (arith, c.requires.places_new, c.loop-p-test.false)) c.loop-p.invariant
