use Rattle.std.proofs.Common.{sym, subst}
use Rattle.std.proofs.lemmas.List.Elements.{All-nil}
use Rattle.std.specs.List.{All}
use Rattle.occ_tree.specs.Places.{forest}
use Rattle.bearing.specs.Gone.{IsBehindGone}
use Rattle.bearing.proofs.Shifted.{row_node, row_class}
use Rattle.bearing.proofs.gone_tokens.walls_of.Goals as goal

pub returns-then-gone : goal.returns-then-gone
returns-then-gone c =
    let are = IsBehindGone c.args.net.now.committed (forest c.args.tree.now) c.args.gone.now in
    subst (All are) (sym c.new-walls.ensures.items) (All-nil are)

pub loop-i-init : goal.loop-i-init
loop-i-init c =
    let are = IsBehindGone c.args.net.now.committed (forest c.args.tree.now) c.args.gone.now in
    subst (All are) (sym c.new-walls.ensures.items) (All-nil are)

pub note_wall-requires-clause-row : goal.note_wall-requires-clause-row
note_wall-requires-clause-row c = row_node (forest c.args.tree.now) c.args.gone.now.class c.tokens-rows.result.now c.tokens-rows.ensures.rows c.loop-i.i c.index-rows-i.result c.loop-i-test.true c.index-rows-i.is

pub note_wall-requires-clause-class : goal.note_wall-requires-clause-class
note_wall-requires-clause-class c = row_class (forest c.args.tree.now) c.args.gone.now.class c.tokens-rows.result.now c.tokens-rows.ensures.rows c.loop-i.i c.index-rows-i.result c.loop-i-test.true c.index-rows-i.is

pub loop-i-preserved : goal.loop-i-preserved
loop-i-preserved c = c.in_ok-note_wall.ensures c.loop-i.invariant

pub returns-then-len-ge-LIMIT : goal.returns-then-len-ge-LIMIT
returns-then-len-ge-LIMIT c = c.loop-i.invariant

pub returns : goal.returns
returns c = c.loop-i.invariant
