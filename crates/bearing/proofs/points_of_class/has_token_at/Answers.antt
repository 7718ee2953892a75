use Rattle.std.proofs.Common.{◌≡◌, length, arith}
use Rattle.occ_tree.specs.Places.{forest}
use Rattle.bearing.proofs.Reached.{row_at, off_next, class_off}
use Rattle.bearing.proofs.points_of_class.has_token_at.Goals as goal

pub loop-i-init : goal.loop-i-init
loop-i-init c p (k, row, less, is, at) = absurd (omega (arith, less))

pub is_token_at-requires : goal.is_token_at-requires
is_token_at-requires c = row_at (forest c.args.tree.now) c.args.class.now c.tokens-rows.result.now c.tokens-rows.ensures.rows c.loop-i.i c.index-rows-i.result c.loop-i-test.true c.index-rows-i.is

pub loop-i-preserved : goal.loop-i-preserved
loop-i-preserved c =
    off_next (forest c.args.tree.now) c.args.points.now c.tokens-rows.result.now c.loop-i.i c.index-rows-i.result c.index-rows-i.is c.loop-i-test.true c.loop-i.invariant (c.is_token_at.ensures c.if-is_token_at.false)

pub returns : goal.returns
returns c is =
    let whole : c.loop-i.i ≡ length c.tokens-rows.result.now = omega arith in
    class_off (forest c.args.tree.now) c.args.class.now c.tokens-rows.result.now c.tokens-rows.ensures.rows c.args.points.now c.loop-i.i whole c.loop-i.invariant
