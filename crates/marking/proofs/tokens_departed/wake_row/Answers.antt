use Rattle.std.proofs.Common.{◌≡◌, ◌∙◌, ap, sym, subst, rules, w64, Some}
use Rattle.std.specs.Prelude.{ℤ, FitsSigned, IfSome}
use Rattle.std.proofs.lemmas.Int.{to_z-of_z}
use Rattle.undo_rows.specs.declared.row.Row.{Row as TableRow}
use Rattle.undo_rows.specs.Changes.{present as table}
use Rattle.decision_rows.specs.declared.row.Pair.{Pair}
use Rattle.spots.specs.Forest.{IsLive}
use Rattle.occ_tree.specs.Places.{forest}
use Rattle.occ_tree.specs.Standing.{present, early}
use Rattle.bearing.specs.Gone.{BoreNot}
use Rattle.belief_table.specs.Waiting.{dates_in, Puts}
use Rattle.marking.proofs.Waking.{waited_on, rested, woken, some_row, ok_then}
use Rattle.marking.proofs.tokens_departed.wake_row.Goals as goal

pub returns-then-has : goal.returns-then-has
returns-then-has c =
    waited_on (present c.args.tree.now) (table c.args.rows.now) (λ x. Unit {0}) (BoreNot c.args.net.now.committed (forest c.args.tree.now) c.args.gone.now) c.args.i (dates_in c.args.waiting.now)
    (sym c.has.ensures ∙ c.if-has.true)

pub spares-requires-clause-live : goal.spares-requires-clause-live
spares-requires-clause-live c =
    let t = table c.args.rows.now in
    let (row, at) = some_row (t.row c.args.i) c.requires.row in
    let pair = subst (λ o. IfSome o (λ (z : TableRow Pair 8). (c.pair-trigger.result.0 ≡ z.value.trigger) × (c.pair-trigger.result.1 ≡ z.value.rule))) at c.pair-trigger.ensures in
    subst (IsLive (forest c.args.tree.now)) (sym pair.0) (c.requires.events c.args.i row at)

pub returns-then-spares : goal.returns-then-spares
returns-then-spares c =
    let t = table c.args.rows.now in
    let (row, at) = some_row (t.row c.args.i) c.requires.row in
    let pair = subst (λ o. IfSome o (λ (z : TableRow Pair 8). (c.pair-trigger.result.0 ≡ z.value.trigger) × (c.pair-trigger.result.1 ≡ z.value.rule))) at c.pair-trigger.ensures in
    let bore = BoreNot c.args.net.now.committed (forest c.args.tree.now) c.args.gone.now in
    rested (present c.args.tree.now) t (λ x. Unit {0}) bore c.args.i row (dates_in c.args.waiting.now) at (subst bore pair.0 (c.spares.ensures c.if-spares.true))

pub returns-else-spares : goal.returns-else-spares
returns-else-spares c =
    let s = present c.args.tree.now in
    let t = table c.args.rows.now in
    let old = dates_in c.args.waiting.now in
    let new = dates_in c.push.new.self in
    let (row, at) = some_row (t.row c.args.i) c.requires.row in
    let pair = subst (λ o. IfSome o (λ (z : TableRow Pair 8). (c.pair-trigger.result.0 ≡ z.value.trigger) × (c.pair-trigger.result.1 ≡ z.value.rule))) at c.pair-trigger.ensures in
    let fits : FitsSigned w64 c.early.result = search rules in
    let date = to_z-of_z w64 c.early.result fits ∙ c.early.ensures.date ∙ ap (early s) pair.0 in
    ok_then c.push.result
    (λ puts. woken s t (λ x. Unit {0}) (BoreNot c.args.net.now.committed (forest c.args.tree.now) c.args.gone.now) c.args.i row old new at tt (subst (λ (z : ℤ). Puts old new c.args.i (Some z)) date puts))
    c.push.ensures.ok
