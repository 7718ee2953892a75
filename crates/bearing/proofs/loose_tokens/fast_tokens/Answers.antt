use Rattle.std.proofs.Common.{List, ℕ, sym, subst}
use Rattle.std.proofs.lemmas.List.Elements.{All-nil}
use Rattle.std.specs.List.{All}
use Rattle.occ_tree.specs.Places.{forest}
use Rattle.bearing.specs.Fast.{is_out}
use Rattle.bearing.specs.Shifts.{IsFastToken}
use Rattle.bearing.proofs.Shifted.{row_node, row_class}
use Rattle.bearing.proofs.loose_tokens.fast_tokens.Goals as goal

pub loop-i-init : goal.loop-i-init
loop-i-init c =
    let is = IsFastToken (forest c.args.tree.now) (is_out c.args.fast.now) c.args.class.now in
    subst (All is) (sym c.new-tokens.ensures.items) (All-nil is)

pub note_fast-requires : goal.note_fast-requires
note_fast-requires c = record { row = row_node (forest c.args.tree.now) c.args.class.now c.tokens-rows.result.now c.tokens-rows.ensures.rows c.loop-i.i c.index-rows-i.result c.loop-i-test.true c.index-rows-i.is }

pub loop-i-preserved : goal.loop-i-preserved
loop-i-preserved c =
    let f = forest c.args.tree.now in
    let old = c.loop-i.tokens.items in
    let new = c.note_fast.new.tokens.items in
    let class_is = row_class f c.args.class.now c.tokens-rows.result.now c.tokens-rows.ensures.rows c.loop-i.i c.index-rows-i.result c.loop-i-test.true c.index-rows-i.is in
    (subst (λ (class : List ℕ). All (IsFastToken f (is_out c.args.fast.now) class) old → All (IsFastToken f (is_out c.args.fast.now) class) new) class_is c.in_ok-note_fast.ensures) c.loop-i.invariant
