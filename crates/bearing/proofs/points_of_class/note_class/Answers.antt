use Rattle.std.proofs.Common.{◌≡◌, length, subst, arith}
use Rattle.occ_tree.specs.Places.{forest}
use Rattle.bearing.specs.Reach.{Notes}
use Rattle.bearing.proofs.Reached.{OfFirstRows, row_at, rows_none, rows_next, class_noted}
use Rattle.bearing.proofs.points_of_class.note_class.Goals as goal

pub loop-i-init : goal.loop-i-init
loop-i-init c = rows_none (forest c.args.tree.now) c.tokens-rows.result.now c.args.reach.now

pub note_token-requires-clause-row : goal.note_token-requires-clause-row
note_token-requires-clause-row c = row_at (forest c.args.tree.now) c.args.class.now c.tokens-rows.result.now c.tokens-rows.ensures.rows c.loop-i.i c.index-rows-i.result c.loop-i-test.true c.index-rows-i.is

pub loop-i-preserved : goal.loop-i-preserved
loop-i-preserved c =
    rows_next (forest c.args.tree.now) c.tokens-rows.result.now c.loop-i.i c.index-rows-i.result c.args.reach.now c.loop-i.reach c.note_token.new.reach c.index-rows-i.is c.loop-i-test.true c.loop-i.invariant c.note_token.ensures

pub returns : goal.returns
returns c =
    let f = forest c.args.tree.now in
    let rows = c.tokens-rows.result.now in
    let whole : c.loop-i.i ≡ length rows = omega arith in
    class_noted f c.args.class.now rows c.tokens-rows.ensures.rows c.args.reach.now c.loop-i.reach (subst (λ n. Notes f (OfFirstRows f rows n) c.args.reach.now c.loop-i.reach) whole c.loop-i.invariant)
