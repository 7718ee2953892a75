use Rattle.std.proofs.Common.{◌≡◌, ◌∙◌, ℕ, List, Bool, true, ◌<◌, sym, ap, subst, inl, arith}
use Rattle.std.proofs.lemmas.List.Elements.{All-nil}
use Rattle.std.specs.List.{All}
use Rattle.occ_tree.specs.Places.{forest}
use Rattle.bearing.specs.declared.walls.FastToken.{FastToken}
use Rattle.bearing.specs.Fast.{is_out}
use Rattle.bearing.specs.PointSets.{is_in}
use Rattle.bearing.specs.Shifts.{IsFastToken, ShiftHasBoth, AreShifts}
use Rattle.bearing.proofs.Shifted.{all_fast, row_node, row_class, NotesFirst, rows_start, rows_more, rows_whole}
use Rattle.bearing.proofs.Touched.{below_length}
use Rattle.bearing.proofs.loose_tokens.shifts_of.Goals as goal

pub returns-then-are_among : goal.returns-then-are_among
returns-then-are_among c =
    let f = forest c.args.tree.now in
    let fast = c.args.moves.now.fast.items in
    let class = c.args.class.now in
    let among : (p : ℕ) → p < 256 → is_in c.args.all.now p ≡ true → is_in fast p ≡ true =
    λ p less there. ap (λ (l : List Bool). is_in l p) (sym c.deref.ensures.value) ∙ c.are_among.ensures c.if-are_among.true p less there in
    subst (AreShifts c.args.net.now f (is_out fast) class) (sym c.new-shifts.ensures.items) (record {
      have = All-nil (ShiftHasBoth c.args.net.now);
      each = λ y m here of. inl (all_fast f fast class c.args.all.now c.requires.all among (λ p there. below_length c.args.all.now p there c.requires.all.places) y m here of);
    })

pub loop-i-init : goal.loop-i-init
loop-i-init c =
    let f = forest c.args.tree.now in
    let loose = is_out c.args.moves.now.fast.items in
    subst (NotesFirst c.args.net.now f loose c.args.class.now c.tokens-rows.result.now 0) (sym c.new-shifts.ensures.items)
    (rows_start c.args.net.now f loose c.args.class.now c.tokens-rows.result.now c.tokens-rows.ensures.rows)

pub note_row-requires-clause-row : goal.note_row-requires-clause-row
note_row-requires-clause-row c = row_node (forest c.args.tree.now) c.args.class.now c.tokens-rows.result.now c.tokens-rows.ensures.rows c.loop-i.i c.index-rows-i.result c.loop-i-test.true c.index-rows-i.is

pub note_row-requires-clause-tokens : goal.note_row-requires-clause-tokens
note_row-requires-clause-tokens c =
    let f = forest c.args.tree.now in
    let class_is = row_class f c.args.class.now c.tokens-rows.result.now c.tokens-rows.ensures.rows c.loop-i.i c.index-rows-i.result c.loop-i-test.true c.index-rows-i.is in
    subst (λ (l : List FastToken). All (IsFastToken f (is_out c.args.moves.now.fast.items) c.index-rows-i.result.class) l) (sym c.deref-in-loop-i.ensures.value)
    (subst (λ (class : List ℕ). All (IsFastToken f (is_out c.args.moves.now.fast.items) class) c.in_ok-tokens.tokens.items) (sym class_is)
    (subst (λ (l : List Bool). All (IsFastToken f (is_out l) c.args.class.now) c.in_ok-tokens.tokens.items) c.deref-2.ensures.value c.in_ok-tokens.ensures))

pub loop-i-preserved : goal.loop-i-preserved
loop-i-preserved c =
    rows_more c.args.net.now (forest c.args.tree.now) (is_out c.args.moves.now.fast.items) c.args.class.now c.tokens-rows.result.now c.tokens-rows.ensures.rows c.loop-i.i c.index-rows-i.result
    c.loop-i.shifts.items c.note_row.new.shifts.items c.loop-i-test.true c.index-rows-i.is c.loop-i.invariant (c.in_ok-noted.ensures c.if-not-noted.false)

pub returns : goal.returns
returns c =
    rows_whole c.args.net.now (forest c.args.tree.now) (is_out c.args.moves.now.fast.items) c.args.class.now c.tokens-rows.result.now c.tokens-rows.ensures.rows c.loop-i.i c.loop-i.shifts.items (omega arith) c.loop-i.invariant
