use Rattle.std.proofs.Common.{◌≡◌, ◌∷◌, Some, w64, rules, arith, sym, subst, ◌∙◌}
use Rattle.std.specs.Prelude.{FitsSigned}
use Rattle.std.proofs.lemmas.Int.{to_z-of_z}
use Rattle.std.proofs.lemmas.List.Sorted.{length_permutation}
use Rattle.belief_table.specs.Waiting.{dates_in, Takes}
use Rattle.belief_table.proofs.Queued.{queued_less, queued_rest, first_taken, told_some, told_other}
use Rattle.belief_table.proofs.waiting.pop_first.Goals as goal

pub returns-then-eq-clause-queued : goal.returns-then-eq-clause-queued
returns-then-eq-clause-queued c = queued_less (dates_in c.loop-entry.dates) (dates_in c.clear_at.new.dates) c.loop-entry.queue c.pop.new.self c.in-Some.entry c.loop-entry.invariant.1 c.in-Some.ensures.0 c.clear_at.ensures

pub returns-then-eq-clause-first : goal.returns-then-eq-clause-first
returns-then-eq-clause-first c =
    let fits : FitsSigned w64 c.in-Some.entry.early.0 = search rules in
    let waited : dates_in c.loop-entry.dates c.in-Some.entry.row ≡ Some c.in-Some.entry.early.0 = sym c.date_at.ensures ∙ told_some c.date_at.result c.in-Some.entry.early.0 _ (to_z-of_z w64 c.in-Some.entry.early.0 fits) (sym c.eq.ensures ∙ c.if-eq.true) in
    subst (λ dates. Takes (dates_in dates) (dates_in c.clear_at.new.dates) c.in-Some.entry.row c.in-Some.entry.early.0) c.loop-entry.invariant.0
    (first_taken (dates_in c.loop-entry.dates) (dates_in c.clear_at.new.dates) c.loop-entry.queue c.pop.new.self c.in-Some.entry c.loop-entry.invariant.1 c.in-Some.ensures.0 c.in-Some.ensures.1 waited c.clear_at.ensures)

pub loop-entry-smaller : goal.loop-entry-smaller
loop-entry-smaller c = let less = length_permutation c.loop-entry.queue (c.in-Some.entry ∷ c.pop.new.self) c.in-Some.ensures.0 in omega arith

pub loop-entry-preserved : goal.loop-entry-preserved
loop-entry-preserved c =
    let fits : FitsSigned w64 c.in-Some.entry.early.0 = search rules in
    (c.loop-entry.invariant.0, queued_rest (dates_in c.loop-entry.dates) c.loop-entry.queue c.pop.new.self c.in-Some.entry c.loop-entry.invariant.1 c.in-Some.ensures.0 (λ waited. told_other c.date_at.result c.in-Some.entry.early.0 _ (to_z-of_z w64 c.in-Some.entry.early.0 fits) (sym c.eq.ensures ∙ c.if-eq.false) (c.date_at.ensures ∙ waited)))
