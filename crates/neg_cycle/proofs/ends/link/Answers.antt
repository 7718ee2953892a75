use Rattle.std.proofs.Common.{◌<◌, sym, subst}
use Rattle.dist_net.specs.declared.Edge.{Edge}
use Rattle.neg_cycle.proofs.Linked.{IsLinking-more}
use Rattle.neg_cycle.proofs.ends.link.Goals as goal

pub loop-i-preserved : goal.loop-i-preserved
loop-i-preserved c =
    let e : Edge = c.index-edges-i.result in
    let place : e.to < 256 = subst (λ (x : Edge). x.to < 256) (sym c.index-edges-i.is) (c.requires.points c.loop-i.i e c.loop-i-test.true) in
    IsLinking-more c.args.edges.now c.loop-i.i c.loop-i.last c.loop-i.before e c.loop-i.invariant (c.loop-i-test.true, sym c.index-edges-i.is) place
