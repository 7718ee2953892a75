use Rattle.std.proofs.Common.{◌≡◌, length, subst, arith}
use Rattle.occ_tree.specs.Places.{forest}
use Rattle.bearing.specs.Reach.{Notes}
use Rattle.bearing.proofs.Reached.{row_at}
use Rattle.bearing.proofs.WatchedPoints.{OfFirstRowsOf, of_none, of_next, tokens_noted}
use Rattle.bearing.proofs.points_of_rule.note_tokens.Goals as goal

pub loop-i-init : goal.loop-i-init
loop-i-init c = of_none (forest c.args.tree.now) c.args.fact c.tokens-rows.result.now c.args.reach.now

pub note_if_of-requires-clause-row : goal.note_if_of-requires-clause-row
note_if_of-requires-clause-row c = row_at (forest c.args.tree.now) c.args.class.now c.tokens-rows.result.now c.tokens-rows.ensures.rows c.loop-i.i c.index-rows-i.result c.loop-i-test.true c.index-rows-i.is

pub loop-i-preserved : goal.loop-i-preserved
loop-i-preserved c =
    of_next (forest c.args.tree.now) c.args.fact c.tokens-rows.result.now c.loop-i.i c.index-rows-i.result c.args.reach.now c.loop-i.reach c.note_if_of.new.reach c.index-rows-i.is c.loop-i-test.true c.loop-i.invariant
    c.note_if_of.ensures

pub returns : goal.returns
returns c =
    let f = forest c.args.tree.now in
    let rows = c.tokens-rows.result.now in
    let whole : c.loop-i.i ≡ length rows = omega arith in
    tokens_noted f c.args.fact c.args.class.now rows c.tokens-rows.ensures.rows c.args.reach.now c.loop-i.reach (subst (λ n. Notes f (OfFirstRowsOf f c.args.fact rows n) c.args.reach.now c.loop-i.reach) whole c.loop-i.invariant)
