use Rattle.std.proofs.Common.{arith}
use Rattle.ancestors.proofs.Jumps.{jumped}
use Rattle.ancestors.proofs.nearer.Goals as goal

pub depth-requires : goal.depth-requires
depth-requires g c =
    (jumped (g.A.Ancestry.way c.args.tree.now c.args.x) (g.A.Ancestry.way c.args.tree.now c.jump-jump.result) (omega (arith, c.requires)) c.jump-jump.ensures).node

pub returns-then-depth-clause-within : goal.returns-then-depth-clause-within
returns-then-depth-clause-within g c =
    let up = jumped (g.A.Ancestry.way c.args.tree.now c.args.x) (g.A.Ancestry.way c.args.tree.now c.jump-jump.result) (omega (arith, c.requires)) c.jump-jump.ensures in
    (omega (arith, c.depth.ensures, c.if-depth.true), up.less (omega (arith, c.requires)))

pub returns-then-depth-clause-front : goal.returns-then-depth-clause-front
returns-then-depth-clause-front g c =
    (jumped (g.A.Ancestry.way c.args.tree.now c.args.x) (g.A.Ancestry.way c.args.tree.now c.jump-jump.result) (omega (arith, c.requires)) c.jump-jump.ensures).front
