use Rattle.std.proofs.Common.{◌<◌, ℕ, List, sym, subst, arith, refl}
use Rattle.std.proofs.lemmas.List.Sorted.{All-permutation}
use Rattle.dist_net.proofs.Groups.{IsGathering, IsGathering-start, IsGathering-more}
use Rattle.dist_net.proofs.table.gather_group.Goals.{then-leads_over, else-leads_over}
use Rattle.dist_net.proofs.table.gather_group.Goals as goal

pub loop-place-init : goal.loop-place-init
loop-place-init c = (IsGathering-start c.args.table.now c.args.to c.args.columns.now c.args.first, omega arith, omega arith)

pub leads_over-requires-clause-over : goal.leads_over-requires-clause-over
leads_over-requires-clause-over c =
    All-permutation (λ b. b < 256) c.args.columns.now c.loop-place.columns c.loop-place.invariant.0.permutation c.requires.columns c.args.first 0
    (omega (arith, c.loop-place.auto.columns, c.requires.first))

pub leads_over-requires-clause-column : goal.leads_over-requires-clause-column
leads_over-requires-clause-column c =
    All-permutation (λ b. b < 256) c.args.columns.now c.loop-place.columns c.loop-place.invariant.0.permutation c.requires.columns c.loop-place.place 0
    (omega (arith, c.loop-place.auto.columns, c.loop-place-test.true))

pub swap-requires-clause-a_in_bounds : goal.swap-requires-clause-a_in_bounds
swap-requires-clause-a_in_bounds c = omega (arith, c.loop-place.invariant.2, c.loop-place.auto.columns, c.loop-place-test.true)

pub overflow_add-end-then-leads_over : goal.overflow_add-end-then-leads_over
overflow_add-end-then-leads_over c = omega (arith, c.loop-place.invariant.2, c.loop-place-test.true, c.requires.few)

pub loop-place-preserved : goal.loop-place-preserved
loop-place-preserved c =
    let old : List ℕ = c.args.columns.now in
    elim c.if-leads_over.branch [
      | then-leads_over w ↦ (
        subst (λ (t : List ℕ). IsGathering c.args.table.now c.args.to old t c.args.first c.if-leads_over.end) (sym w.columns-is)
            (subst (λ (n : ℕ). IsGathering c.args.table.now c.args.to old w.swap.new.self c.args.first n) (sym w.end-is)
            (IsGathering-more c.args.table.now c.args.to old c.loop-place.columns w.swap.new.self c.args.first c.loop-place.end c.loop-place.place c.loop-place.invariant.0 c.loop-place.invariant.1 c.loop-place.invariant.2
            (omega (arith, c.loop-place.auto.columns, c.loop-place-test.true)) w.swap.ensures.after (w.if-leads_over.ensures refl))),
        omega (arith, w.end-is, c.loop-place.invariant.1),
        omega (arith, w.end-is, c.loop-place.invariant.2),
      )
      | else-leads_over w ↦ (
        subst (λ (t : List ℕ). IsGathering c.args.table.now c.args.to old t c.args.first c.if-leads_over.end) (sym w.columns-is)
            (subst (λ (n : ℕ). IsGathering c.args.table.now c.args.to old c.loop-place.columns c.args.first n) (sym w.end-is) c.loop-place.invariant.0),
        omega (arith, w.end-is, c.loop-place.invariant.1),
        omega (arith, w.end-is, c.loop-place.invariant.2),
      )
    ]

pub returns-clause-columns : goal.returns-clause-columns
returns-clause-columns c = c.loop-place.invariant.0.permutation

pub returns-clause-kept : goal.returns-clause-kept
returns-clause-kept c = c.loop-place.invariant.0.kept

pub returns-clause-range : goal.returns-clause-range
returns-clause-range c = (c.loop-place.invariant.1, omega (arith, c.loop-place.invariant.2, c.loop-place-test.false, c.loop-place.auto.place, c.requires.first))

pub returns-clause-over : goal.returns-clause-over
returns-clause-over c = c.loop-place.invariant.0.over
