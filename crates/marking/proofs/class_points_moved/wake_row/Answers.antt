use Rattle.std.proofs.Common.{◌≡◌, ◌∙◌, ℕ, ap, sym, subst, rules, w64, Some}
use Rattle.std.specs.Prelude.{ℤ, FitsSigned, IfSome}
use Rattle.std.proofs.lemmas.Int.{to_z-of_z}
use Rattle.undo_rows.specs.declared.row.Row.{Row as TableRow}
use Rattle.undo_rows.specs.Changes.{present as table}
use Rattle.decision_rows.specs.declared.row.Pair.{Pair}
use Rattle.occ_tree.specs.Places.{forest}
use Rattle.occ_tree.specs.Standing.{present, early}
use Rattle.belief_table.specs.Waiting.{dates_in, Puts}
use Rattle.marking.specs.Woken.{MovesFor, RestsFor}
use Rattle.marking.proofs.Waking.{waited_on, rested, woken, some_row, ok_then}
use Rattle.marking.proofs.class_points_moved.wake_row.Goals as goal

pub returns-then-has : goal.returns-then-has
returns-then-has c = waited_on (present c.args.tree.now) (table c.args.rows.now) (MovesFor c.args.moves.now (forest c.args.tree.now) c.args.of_class.now.class) (RestsFor c.args.net.now c.args.moves.now (forest c.args.tree.now) c.args.of_class.now.class) c.args.i (dates_in c.args.waiting.now) (sym c.has.ensures ∙ c.if-has.true)

pub returns-then-may_rest : goal.returns-then-may_rest
returns-then-may_rest c =
    let t = table c.args.rows.now in
    let (row, at) = some_row (t.row c.args.i) c.requires.row in
    let pair = subst (λ o. IfSome o (λ (z : TableRow Pair 8). (c.pair-trigger.result.0 ≡ z.value.trigger) × (c.pair-trigger.result.1 ≡ z.value.rule))) at c.pair-trigger.ensures in
    rested (present c.args.tree.now) t (MovesFor c.args.moves.now (forest c.args.tree.now) c.args.of_class.now.class) (RestsFor c.args.net.now c.args.moves.now (forest c.args.tree.now) c.args.of_class.now.class) c.args.i row (dates_in c.args.waiting.now) at
    (subst (λ (x : ℕ). RestsFor c.args.net.now c.args.moves.now (forest c.args.tree.now) c.args.of_class.now.class x) pair.0 (c.may_rest.ensures.rests c.if-may_rest.true))

pub returns-else-may_rest : goal.returns-else-may_rest
returns-else-may_rest c =
    let s = present c.args.tree.now in
    let t = table c.args.rows.now in
    let class = c.args.of_class.now.class in
    let old = dates_in c.args.waiting.now in
    let new = dates_in c.push.new.self in
    let (row, at) = some_row (t.row c.args.i) c.requires.row in
    let pair = subst (λ o. IfSome o (λ (z : TableRow Pair 8). (c.pair-trigger.result.0 ≡ z.value.trigger) × (c.pair-trigger.result.1 ≡ z.value.rule))) at c.pair-trigger.ensures in
    let fits : FitsSigned w64 c.early.result = search rules in
    let date = to_z-of_z w64 c.early.result fits ∙ c.early.ensures.date ∙ ap (early s) pair.0 in
    ok_then c.push.result
    (λ puts. woken s t (MovesFor c.args.moves.now (forest c.args.tree.now) class) (RestsFor c.args.net.now c.args.moves.now (forest c.args.tree.now) class) c.args.i row old new at
    (subst (λ (x : ℕ). MovesFor c.args.moves.now (forest c.args.tree.now) class x) pair.0 (c.may_rest.ensures.waits c.if-may_rest.false))
    (subst (λ (z : ℤ). Puts old new c.args.i (Some z)) date puts))
    c.push.ensures.ok
